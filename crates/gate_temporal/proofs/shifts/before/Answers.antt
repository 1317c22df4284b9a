use Rattle.std.proofs.Common.{◌≡◌, ◌<◌, ◌+◌, ◌-◌, ℕ, List, sym, ◌∙◌, ap, subst, arith, inl, inr}
use Rattle.std.proofs.lemmas.Bool.{cases_lt}
use Rattle.gate_trait.specs.declared.node.Node.{Node}
use Rattle.gate_temporal.specs.Rows.{row_value}
use Rattle.gate_trait.specs.Built.{AllIn}
use Rattle.gate_temporal.proofs.Kept.{value_get, all_get, long_more, all_push, push_last, push_before}
use Rattle.gate_temporal.proofs.shifts.before.Goals as goal

pub loop-place-preserved : goal.loop-place-preserved
loop-place-preserved g c =
    let value = g.G.Gates.node_value in
    let belongs = g.G.Gates.belongs in
    let before = c.loop-place.invariant in
    let first = c.args.gates.now in
    let place = c.loop-place.place in
    let row = c.loop-place.row in
    let f = c.args.f.now in
    let new = c.push-in-loop-place.new.self in
    let n = c.node.result in
    let p = c.in_ok-push-2.ensures.ok in
    let long = before.long in
    let some : 0 < place = omega arith in
    record {
      keeps = before.keeps;
      there = subst (λ (s : List Node). AllIn (belongs first) s) (sym p) (all_push (belongs first) row n before.there (all_get (belongs first) f (place - 1) n c.requires.belongs c.node.ensures));
      long = long_more row new n place p before.long;
      first = λ x. ap (λ (s : List Node). row_value (value first x) s 0) p ∙ push_before (value first x) row n 0 (omega arith) ∙ before.first x;
      values = λ x i lt. elim (cases_lt (i + 1) place) [
        | inl less ↦ ap (λ (s : List Node). row_value (value first x) s (i + 1)) p ∙ push_before (value first x) row n (i + 1) (omega arith) ∙ before.values x i less
        | inr more ↦
            let e : place - 1 ≡ i = omega arith in
            ap (λ (s : List Node). row_value (value first x) s (i + 1)) p ∙ push_last (value first x) row n (i + 1) (omega arith) ∙ sym (value_get (value first x) f (place - 1) n c.node.ensures) ∙ ap (λ (k : ℕ). row_value (value first x) f k) e
      ];
    }
