use Rattle.std.proofs.Common.{◌≡◌, ◌<◌, ◌+◌, ◌-◌, ℕ, List, length, All, Contains, refl, sym, ◌∙◌, ap, subst, arith}
use Rattle.gate_trait.specs.declared.node.Node.{Node}
use Rattle.gate_temporal.specs.Rows.{row_value, folded}
use Rattle.gate_temporal.proofs.Kept.{value_get, values_push, long_more, contains_get, all_push}
use Rattle.gate_temporal.proofs.TimeLaws.{fold_end, fold_inside}
use Rattle.gate_temporal.proofs.shifts.after.Goals as goal

pub loop-place-preserved : goal.loop-place-preserved
loop-place-preserved c =
    let before = c.loop-place.invariant in
    let place = c.loop-place.place in
    let f = c.args.f.now in
    let row = c.loop-place.row in
    let new = c.push.new.self in
    let n = c.node.result in
    let p = c.in_ok-push.ensures.ok in
    let long = long_more row new n (length row) p refl in
    let at : place ≡ length row + 1 = sym before.long in
    record {
      long = omega (arith, long, at);
      same = subst (λ (s : List Node). All (λ m. Contains f m) s) (sym p) (all_push (λ m. Contains f m) row n before.same (contains_get f place n c.node.ensures));
      values = λ value i lt. values_push value row new n (length row) (λ i. row_value value f (i + 1)) p refl (before.values value) (sym (value_get value f place n c.node.ensures) ∙ ap (λ (k : ℕ). row_value value f k) at) i (omega (arith, long));
    }

pub returns-clause-same_nodes : goal.returns-clause-same_nodes
returns-clause-same_nodes c =
    let f = c.args.f.now in
    subst (λ (s : List Node). All (λ m. Contains f m) s) (sym c.in_ok-push-2.ensures.ok) (all_push (λ m. Contains f m) c.loop-place.row c.node-2.result c.loop-place.invariant.same (contains_get f c.args.first c.node-2.result c.node-2.ensures))

pub returns-clause-truth : goal.returns-clause-truth
returns-clause-truth c =
    let f = c.args.f.now in
    let row = c.loop-place.row in
    let before = c.loop-place.invariant in
    let long = before.long in
    let first = c.args.first in
    let len : ℕ = length f in
    let fits : first < len = c.requires in
    let round : ℕ = len - first in
    λ value i lt. values_push value row c.push-2.new.self c.node-2.result (length row) (λ i. row_value value f (folded first round (i + 1))) c.in_ok-push-2.ensures.ok refl
    (λ i l. before.values value i l ∙ ap (λ (k : ℕ). row_value value f k) (sym (fold_inside first round (i + 1) (omega arith))))
    (sym (value_get value f first c.node-2.result c.node-2.ensures) ∙ ap (λ (k : ℕ). row_value value f k) (sym (fold_end first round (length row + 1) (omega arith) (omega arith)))) i (omega arith)
