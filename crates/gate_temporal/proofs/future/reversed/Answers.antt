use Rattle.std.proofs.Common.{◌≡◌, ◌<◌, ◌+◌, ◌-◌, ℕ, List, length, All, Contains, sym, ◌∙◌, ap, subst, arith}
use Rattle.gate_trait.specs.declared.node.Node.{Node}
use Rattle.gate_temporal.specs.Rows.{row_value}
use Rattle.gate_temporal.proofs.Kept.{value_get, values_push, long_more, contains_get, all_push}
use Rattle.gate_temporal.proofs.future.reversed.Goals as goal

pub loop-rest-preserved : goal.loop-rest-preserved
loop-rest-preserved c =
    let before = c.loop-rest.invariant in
    let rest = c.loop-rest.rest in
    let nodes = c.args.nodes.now in
    let len : ℕ = length nodes in
    let row = c.loop-rest.row in
    let new = c.push.new.self in
    let n = c.node.result in
    let p = c.in_ok-push.ensures.ok in
    let inside = before.inside in
    let some : 0 < rest = omega arith in
    let more : len - (rest - 1) ≡ len - rest + 1 = omega arith in
    let at : len - (len - rest) - 1 ≡ rest - 1 = omega arith in
    record {
      inside = omega arith;
      long = long_more row new n (len - rest) p before.long ∙ sym more;
      same = subst (λ (s : List Node). All (λ m. Contains nodes m) s) (sym p) (all_push (λ m. Contains nodes m) row n before.same (contains_get nodes (rest - 1) n c.node.ensures));
      values = λ value i lt. values_push value row new n (len - rest) (λ i. row_value value nodes (len - i - 1)) p before.long (before.values value) (sym (value_get value nodes (rest - 1) n c.node.ensures) ∙ ap (λ (k : ℕ). row_value value nodes k) (sym at)) i (omega arith);
    }
