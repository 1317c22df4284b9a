use Rattle.std.proofs.Common.{◌≡◌, ◌<◌, ◌+◌, ◌-◌, ℕ, Bool, length, sym, ◌∙◌, arith}
use Rattle.gate_temporal.specs.Rows.{row_value}
use Rattle.gate_temporal.specs.Times.{until_to}
use Rattle.gate_temporal.proofs.Kept.{keeps_trans, values_more, there_more, long_more, here_value}
use Rattle.gate_temporal.proofs.TimeLaws.{until_step, until_index}
use Rattle.gate_temporal.proofs.future.backward.Goals as goal

pub loop-place-preserved : goal.loop-place-preserved
loop-place-preserved g c =
    let value = g.G.Gates.node_value in
    let belongs = g.G.Gates.belongs in
    let before = c.loop-place.invariant in
    let first = c.args.gates.now in
    let now = c.loop-place.gates in
    let after = c.step.new.gates in
    let place = c.loop-place.place in
    let p = c.in_ok-push.ensures.ok in
    let s = c.in_ok-next.ensures.ok in
    let len : ℕ = length c.args.f.now in
    let some : c.args.from < place = omega arith in
    let inside = before.inside in
    let step = λ (x : ℕ → Bool). until_step (row_value (value first x) c.args.f.now) (row_value (value first x) c.args.g.now) (value first x c.args.last) (len - place) (len - (place - 1)) (place - 1) place _ _ _ _ (s.gives x)
    (here_value belongs value first now before.keeps c.args.f.now c.requires.f_belongs (place - 1) c.node.result c.node.ensures x)
    (here_value belongs value first now before.keeps c.args.g.now c.requires.g_belongs (place - 1) c.node-in-loop-place.result c.node-in-loop-place.ensures x)
    (before.here x) (omega arith) (omega arith) in
    let more : len - (place - 1) ≡ len - place + 1 = omega arith in
    record {
      keeps = keeps_trans belongs value first now after before.keeps c.step.ensures.keeps;
      there = there_more belongs value now after c.step.ensures.keeps c.loop-place.row c.push.new.self _ p before.there s.there;
      next = s.there;
      inside = omega arith;
      from = omega arith;
      long = long_more c.loop-place.row c.push.new.self _ (len - place) p before.long ∙ sym more;
      here = step;
      values = λ x k lt. values_more belongs value now after c.step.ensures.keeps c.loop-place.row c.push.new.self _ (len - place) p before.there before.long x
          (λ k. until_to (row_value (value first x) c.args.f.now) (row_value (value first x) c.args.g.now) (value first x c.args.last) (k + 1) (len - k - 1)) (before.values x)
          (step x ∙ until_index (row_value (value first x) c.args.f.now) (row_value (value first x) c.args.g.now) (value first x c.args.last) (len - (place - 1)) (len - place + 1) (place - 1) (len - (len - place) - 1) (omega arith) (omega arith)) k (omega arith);
    }

pub returns-clause-values : goal.returns-clause-values
returns-clause-values g c =
    let value = g.G.Gates.node_value in
    let first = c.args.gates.now in
    let len : ℕ = length c.args.f.now in
    let low = c.loop-place.invariant.from in
    λ x i far lt. c.loop-place.invariant.values x (len - i - 1) (omega arith) ∙ until_index (row_value (value first x) c.args.f.now) (row_value (value first x) c.args.g.now) (value first x c.args.last) (len - i - 1 + 1) (len - i) (len - (len - i - 1) - 1) i (omega arith) (omega arith)
