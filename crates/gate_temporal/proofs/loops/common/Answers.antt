use Rattle.std.proofs.Common.{◌≡◌, ℕ, sym, ◌∙◌, ap, inl, inr, arith}
use Rattle.std.proofs.lemmas.Bool.{cases_lt}
use Rattle.gate_temporal.specs.Rows.{row_value}
use Rattle.gate_temporal.proofs.Kept.{value_get}
use Rattle.gate_temporal.proofs.loops.common.Goals as goal

pub loop-place-preserved : goal.loop-place-preserved
loop-place-preserved c =
    let before = c.loop-place.invariant in
    let place = c.loop-place.place in
    let values = c.args.values.now in
    let same : c.node.result ≡ c.node-first.result = c.is_same.ensures c.if-not-is_same.false in
    record {
      there = before.there;
      same = λ value k lt. elim (cases_lt k place) [
        | inl less ↦ before.same value k less
        | inr more ↦
            let e : place ≡ k = omega arith in
            ap (λ (j : ℕ). row_value value values j) (sym e) ∙ value_get value values place c.node.result c.node.ensures ∙ ap value same
      ];
    }
