use Rattle.std.proofs.Common.{◌&&◌, ℕ, Bool, ◌∙◌, ap}
use Rattle.gate_temporal.specs.Rows.{row_value}
use Rattle.gate_temporal.proofs.Kept.{keeps_trans, values_more, there_more, long_more, here_value}
use Rattle.gate_temporal.proofs.pointwise.both.Goals as goal

pub loop-place-preserved : goal.loop-place-preserved
loop-place-preserved g c =
    let value = g.G.Gates.node_value in
    let belongs = g.G.Gates.belongs in
    let before = c.loop-place.invariant in
    let first = c.args.gates.now in
    let now = c.loop-place.gates in
    let after = c.and.new.self in
    let place = c.loop-place.place in
    let p = c.in_ok-push.ensures.ok in
    let s = c.in_ok-and.ensures.ok in
    let value_f = λ (x : ℕ → Bool). here_value belongs value first now before.keeps c.args.f.now c.requires.f_belongs place c.node.result c.node.ensures x in
    let value_g = λ (x : ℕ → Bool). here_value belongs value first now before.keeps c.args.g.now c.requires.g_belongs place c.node-in-loop-place.result c.node-in-loop-place.ensures x in
    record {
      keeps = keeps_trans belongs value first now after before.keeps c.and.ensures.keeps;
      there = there_more belongs value now after c.and.ensures.keeps c.loop-place.row c.push.new.self _ p before.there s.there;
      long = long_more c.loop-place.row c.push.new.self _ place p before.long;
      values = λ x. values_more belongs value now after c.and.ensures.keeps c.loop-place.row c.push.new.self _ place p before.there before.long x (λ i. row_value (value first x) c.args.f.now i && row_value (value first x) c.args.g.now i) (before.values x)
          (s.gives x ∙ ap (λ (b : Bool). b && value now x c.node-in-loop-place.result) (value_f x) ∙ ap (λ (b : Bool). row_value (value first x) c.args.f.now place && b) (value_g x));
    }
