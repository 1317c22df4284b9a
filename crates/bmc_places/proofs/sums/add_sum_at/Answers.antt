use Rattle.std.proofs.Common.{◌∙◌, ℕ, Bool, ◌+ℤ◌, length, get_or, slice_get, ap, arith}
use Rattle.std.proofs.lemmas.Option.{slice_get-get_or}
use Rattle.core_meaning.specs.Integers.{wrap}
use Rattle.gate_integers.specs.Numbers.{signed}
use Rattle.gate_numbers.specs.Numbers.{where_true}
use Rattle.bmc_places.proofs.sums.add_sum_at.Goals as goal

pub returns-clause-adds : goal.returns-clause-adds
returns-clause-adds g c =
    let value = g.G.Gates.node_value in
    let old = value c.args.gates.now in
    let new = value c.add_summed.new.gates in
    let ns = c.args.store.now.integers.items in
    let made = c.args.made.now in
    let at = slice_get-get_or made c.args.place 0 (omega (arith, c.if-place-made.false)) in
    let (q, stands_q, adds) = c.in_ok-number.ensures.adds in (
      c.in_ok-number.number,
      c.in_ok-push.ensures.items,
      (
        get_or made c.args.place 0,
        at,
        q,
        stands_q,
        λ m p at_m at_p.
            let (s, stands, long, is) = adds p (ap (λ (n : ℕ). slice_get ns n) (c.found_at-first.ensures m at_m) ∙ at_p) in
            (s, stands, long, λ x. is x ∙ ap (λ (b : Bool). wrap (length p) (signed (old x) p +ℤ where_true b (signed (new x) q))) (c.node_or_false-node.ensures.value x)),
      ),
    )
