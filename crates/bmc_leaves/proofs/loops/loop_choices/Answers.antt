use Rattle.std.proofs.Common.{◌≡◌, ◌∙◌, ◌+◌, ◌<◌, ℕ, length, ap, arith}
use Rattle.gate_trait.proofs.KeptLemmas.{keeps_trans, all_more}
use Rattle.gate_temporal.specs.Rows.{row_value}
use Rattle.bmc_leaves.proofs.RowLaws.{long_more, values_push, row_kept}
use Rattle.bmc_leaves.proofs.LoopLaws.{only_loop}
use Rattle.bmc_leaves.proofs.loops.loop_choices.Goals as goal

pub loop-state-preserved : goal.loop-state-preserved
loop-state-preserved g c =
    let value = g.G.Gates.node_value in
    let belongs = g.G.Gates.belongs in
    let before = c.loop-state.invariant in
    let first = c.args.gates.now in
    let now = c.loop-state.gates in
    let after = c.input.new.self in
    let row = c.loop-state.row in
    let new = c.push-in-loop-state.new.self in
    let n = c.in_ok-node.node in
    let p = c.in_ok-push-2.ensures.ok in
    let s = c.in_ok-node.ensures.ok in
    let same : c.from-in-loop-state.result ≡ c.loop-state.state = omega (arith, c.from-in-loop-state.ensures) in
    record {
      keeps = keeps_trans belongs value first now after before.keeps c.input.ensures.keeps;
      there = all_more belongs value now after c.input.ensures.keeps row new n p before.there s.there;
      long = long_more row new n c.loop-state.state p before.long;
      values = λ x. values_push (value after x) row new n c.loop-state.state (λ i. x (c.args.loops + i)) p before.long
          (λ i lt. row_kept belongs value now after c.input.ensures.keeps row before.there x i ∙ before.values x i lt) (s.gives x ∙ ap (λ (i : ℕ). x (c.args.loops + i)) same);
    }

pub returns-clause-choices : goal.returns-clause-choices
returns-clause-choices g c =
    let value = g.G.Gates.node_value in
    let before = c.loop-state.invariant in
    let states = c.args.states in
    let many : 1 < states = omega arith in
    let long : length c.loop-state.row ≡ states = omega (arith, before.long) in
    record {
      long = long;
      only = λ x l. only_loop (row_value (value c.loop-state.gates x) c.loop-state.row) (λ k. x (c.args.loops + k)) states (length c.loop-state.row) l long many (λ k lt. before.values x k (omega (arith, lt, before.long, long)));
    }
