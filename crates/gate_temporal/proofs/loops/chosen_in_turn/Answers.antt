use Rattle.std.proofs.Common.{length, arith}
use Rattle.gate_temporal.specs.Rows.{row_value}
use Rattle.gate_temporal.proofs.Kept.{keeps_trans, here_value}
use Rattle.gate_temporal.proofs.LoopLaws.{choose_more}
use Rattle.gate_temporal.proofs.loops.chosen_in_turn.Goals as goal

pub loop-place-preserved : goal.loop-place-preserved
loop-place-preserved g c =
    let value = g.G.Gates.node_value in
    let belongs = g.G.Gates.belongs in
    let before = c.loop-place.invariant in
    let first = c.args.gates.now in
    let now = c.loop-place.gates in
    let after = c.choose.new.self in
    let place = c.loop-place.place in
    let s = c.in_ok-answer.ensures.ok in
    let choices = c.args.choices.now in
    let values = c.args.values.now in
    record {
      keeps = keeps_trans belongs value first now after before.keeps c.choose.ensures.keeps;
      there = s.there;
      gives = λ x k only lt. choose_more (row_value (value first x) choices) (length choices) place k _ _ _ _ (row_value (value first x) values) only (omega arith) lt
          (here_value belongs value first now before.keeps choices c.requires.choices_belong place c.node.result c.node.ensures x)
          (here_value belongs value first now before.keeps values c.requires.values_belong place c.node-in-loop-place.result c.node-in-loop-place.ensures x)
          (λ less. before.gives x k only less) (s.gives x);
    }
