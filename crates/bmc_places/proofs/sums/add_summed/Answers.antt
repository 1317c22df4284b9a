use Rattle.std.proofs.Common.{◌∙◌, [], ℤ, ◌+ℤ◌, List, length, sym, ap, get_or, slice_get}
use Rattle.std.proofs.lemmas.Option.{slice_get-get_or}
use Rattle.gate_trait.specs.declared.node.Node.{Node}
use Rattle.core_meaning.specs.Integers.{wrap}
use Rattle.gate_integers.specs.Numbers.{signed}
use Rattle.gate_numbers.specs.Numbers.{where_true}
use Rattle.bmc_windows.proofs.PushLemmas.{push_at}
use Rattle.bmc_places.proofs.NumberLaws.{int_belongs, signed_kept}
use Rattle.bmc_places.proofs.sums.add_summed.Goals as goal

pub returns-clause-adds : goal.returns-clause-adds
returns-clause-adds g c =
    let value = g.G.Gates.node_value in
    let belongs = g.G.Gates.belongs in
    let first = c.args.gates.now in
    let now = c.summed.new.gates in
    let ns = c.args.store.now.integers.items in
    let s = c.in_ok-new.new in
    let k = c.in_ok-number.number in
    let q = get_or ns c.args.b [] in
    let at_q = slice_get-get_or ns c.args.b [] c.in_ok-new.ensures.there in
    let stands = ap (λ (ms : List (List Node)). slice_get ms k) c.in_ok-number.ensures.added ∙ push_at ns s k c.in_ok-number.ensures.number in (
      q,
      c.in_ok-number.ensures.extends.integers c.args.b q at_q,
      λ p at_p.
          let v = c.in_ok-new.ensures.value p q at_p at_q in
          (s, stands, v.0, λ x. v.1 x ∙ ap (λ (z : ℤ). wrap (length p) (signed (value first x) p +ℤ where_true (value first x c.args.node) z)) (sym (signed_kept belongs value first now c.summed.ensures.keeps q (int_belongs (belongs first) ns c.args.b q c.requires.stored.integers at_q) x))),
    )
