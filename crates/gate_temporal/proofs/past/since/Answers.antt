use Rattle.std.proofs.Common.{◌≡◌, ◌+◌, ℕ, suc, Bool, sym, ◌∙◌, ap, arith}
use Rattle.gate_temporal.specs.Rows.{row_value}
use Rattle.gate_temporal.specs.Times.{since_to}
use Rattle.gate_temporal.proofs.Kept.{keeps_trans, values_more, there_more, long_more, here_value}
use Rattle.gate_temporal.proofs.TimeLaws.{since_step, since_law, true_same}
use Rattle.gate_temporal.proofs.past.since.Goals as goal

pub loop-place-preserved : goal.loop-place-preserved
loop-place-preserved g c =
    let value = g.G.Gates.node_value in
    let belongs = g.G.Gates.belongs in
    let before = c.loop-place.invariant in
    let first = c.args.gates.now in
    let now = c.loop-place.gates in
    let after = c.step.new.gates in
    let place = c.loop-place.place in
    let p = c.in_ok-push.ensures.ok in
    let s = c.in_ok-last.ensures.ok in
    let step = λ (x : ℕ → Bool). since_step (row_value (value first x) c.args.f.now) (row_value (value first x) c.args.g.now) place _ _ _ _ (s.gives x)
    (here_value belongs value first now before.keeps c.args.f.now c.requires.f_belongs place c.node.result c.node.ensures x)
    (here_value belongs value first now before.keeps c.args.g.now c.requires.g_belongs place c.node-in-loop-place.result c.node-in-loop-place.ensures x)
    (before.before x) in
    let next : place + 1 ≡ suc place = omega arith in
    record {
      keeps = keeps_trans belongs value first now after before.keeps c.step.ensures.keeps;
      there = there_more belongs value now after c.step.ensures.keeps c.loop-place.row c.push.new.self _ p before.there s.there;
      last = s.there;
      long = long_more c.loop-place.row c.push.new.self _ place p before.long;
      before = λ x. step x ∙ ap (λ (k : ℕ). since_to (row_value (value first x) c.args.f.now) (row_value (value first x) c.args.g.now) k) (sym next);
      values = λ x. values_more belongs value now after c.step.ensures.keeps c.loop-place.row c.push.new.self _ place p before.there before.long x (λ i. since_to (row_value (value first x) c.args.f.now) (row_value (value first x) c.args.g.now) (suc i)) (before.values x) (step x);
    }

pub returns-clause-truth : goal.returns-clause-truth
returns-clause-truth g c =
    let value = g.G.Gates.node_value in
    let first = c.args.gates.now in
    λ x i lt. true_same _ _ (c.loop-place.invariant.values x i (omega arith)) (since_law (row_value (value first x) c.args.f.now) (row_value (value first x) c.args.g.now) i)
