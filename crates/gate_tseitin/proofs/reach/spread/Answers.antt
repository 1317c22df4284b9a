use Rattle.std.proofs.Common.{◌≡◌, ◌+◌, ◌-◌, ◌≤◌, ℕ, length, subst, arith}
use Rattle.gate_trait.specs.Circuit.{IsAbove}
use Rattle.gate_tseitin.proofs.Marks.{ClosedFrom, step_grows, step_closed, step_least, above_more}
use Rattle.gate_tseitin.proofs.reach.spread.Goals as goal

pub mark_below-requires-clause-above : goal.mark_below-requires-clause-above
mark_below-requires-clause-above c =
    let n = c.gates-gates.result - 1 - c.loop-step.step in
    let low : n ≤ length c.loop-step.marks = omega (arith, c.gates-gates.ensures.count, c.loop-step.auto.marks, c.requires) in
    above_more n (length c.loop-step.marks) c.gate.result low (c.gates-gates.ensures.layered n c.gate.result c.gate.ensures)

pub loop-step-preserved : goal.loop-step-preserved
loop-step-preserved c =
    let h = c.loop-step.invariant in
    let store = c.args.store.now in
    let old = c.loop-step.marks in
    let n = c.gates-gates.result - 1 - c.loop-step.step in
    let g = c.gate.result in
    let count = c.gates-gates.ensures.count in
    let low : n ≤ length old = omega (arith, count, c.loop-step.auto.marks, c.requires) in
    let above : IsAbove n g = c.gates-gates.ensures.layered n g c.gate.ensures in
    let there : IsAbove (length old) g = above_more n (length old) g low above in
    let next : length store - c.loop-step.step ≡ n + 1 = omega (arith, count, c.loop-step-test.true) in
    let same : n ≡ length store - (c.loop-step.step + 1) = omega (arith, count, c.loop-step-test.true) in
    record {
      grows = λ k e. step_grows old c.mark_below.new.marks n g there c.mark_below.ensures k (h.grows k e);
      closed = subst (λ (m : ℕ). ClosedFrom m c.mark_below.new.marks store) same
          (step_closed store old c.mark_below.new.marks n (length store - c.loop-step.step) g next above there c.gate.ensures c.mark_below.ensures h.closed);
      fewest = λ other shut first. step_least store old c.mark_below.new.marks other n g c.gate.ensures c.mark_below.ensures shut (h.fewest other shut first);
    }
