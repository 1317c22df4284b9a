use Rattle.std.proofs.Common.{◌∙◌, ◌+ℤ◌, List, length, ap}
use Rattle.std.proofs.lemmas.Option.{get_or_from_slice_get}
use Rattle.gate_trait.specs.declared.node.Node.{Node}
use Rattle.core_meaning.specs.Integers.{wrap}
use Rattle.gate_integers.specs.Numbers.{signed}
use Rattle.gate_numbers.specs.Numbers.{where_true}
use Rattle.bmc_places.proofs.sums.summed.Goals as goal

pub returns-clause-value : goal.returns-clause-value
returns-clause-value g c = λ p q at_p at_q.
    let old = g.G.Gates.node_value c.args.gates.now in
    let ns = c.args.store.now.integers.items in
    let first = c.index.ensures ∙ get_or_from_slice_get ns c.args.a p c.index.result.now at_p in
    let second = c.index-2.ensures ∙ get_or_from_slice_get ns c.args.b q c.index-2.result.now at_q in (
      c.in_ok-made.ensures.width ∙ ap (λ (r : List Node). length r) first,
      λ x.
          c.in_ok-made.ensures.value x
          ∙ ap (λ (r : List Node). wrap (length r) (signed (old x) r +ℤ where_true (old x c.args.node) (signed (old x) c.index-2.result.now))) first
          ∙ ap (λ (r : List Node). wrap (length p) (signed (old x) p +ℤ where_true (old x c.args.node) (signed (old x) r))) second,
    )
