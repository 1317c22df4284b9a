use Rattle.std.proofs.Common.{◌≡◌, ℕ, ◌∙◌, ap, refl, arith}
use Rattle.gate_temporal.specs.Rows.{row_value}
use Rattle.bmc_places.proofs.round_rows.node_after.Goals as goal

pub returns-then-next-place-clause-tells : goal.returns-then-next-place-clause-tells
returns-then-next-place-clause-tells g c = λ x j at.
    let value = g.G.Gates.node_value c.args.gates.now in
    let is : c.found_at-next.result ≡ j = c.found_at-next.ensures j at in (
      (λ lt. c.node_or_false.ensures.value x ∙ ap (λ (k : ℕ). row_value (value x) c.args.row.now k) is),
      (λ le. let later = c.if-next-place.true in absurd (omega (arith, later, is, le))),
    )

pub returns-clause-tells : goal.returns-clause-tells
returns-clause-tells g c = λ x j at.
    let is : c.found_at-next.result ≡ j = c.found_at-next.ensures j at in (
      (λ lt. let earlier = c.if-next-place.false in absurd (omega (arith, earlier, is, lt))),
      (λ le. refl),
    )
