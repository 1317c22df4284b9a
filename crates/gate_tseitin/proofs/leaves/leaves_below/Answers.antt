use Rattle.gate_tseitin.specs.Shown.{IsOperand}
use Rattle.gate_tseitin.proofs.Linking.{begun, begun_value, popped, taken_value, none_waits}
use Rattle.gate_tseitin.proofs.leaves.leaves_below.Goals as goal

pub loop-turn-init : goal.loop-turn-init
loop-turn-init c =
    let all = begun c.args.marks.now c.args.kept.now c.args.a c.args.b _ _ _ _ c.new-waiting.ensures.items c.in_ok-push.ensures.items c.in_ok-push-2.ensures.items c.new-leaves.ensures.items c.requires.first c.requires.second in
    record {
      waiting = all.0;
      kept = all.1;
      value = λ v vs _. begun_value vs c.args.a c.args.b _ _ _ _ c.new-waiting.ensures.items c.in_ok-push.ensures.items c.in_ok-push-2.ensures.items c.new-leaves.ensures.items;
    }

pub returns-in-None-clause-kept : goal.returns-in-None-clause-kept
returns-in-None-clause-kept c = c.loop-turn.invariant.kept

pub returns-in-None-clause-value : goal.returns-in-None-clause-value
returns-in-None-clause-value c = λ v vs computed. none_waits vs c.loop-turn.waiting.items c.loop-turn.leaves.items _ c.in-None.ensures.none (c.loop-turn.invariant.value v vs computed)

pub open_operand-requires-clause-operand : goal.open_operand-requires-clause-operand
open_operand-requires-clause-operand c = (popped (IsOperand c.args.marks.now c.args.kept.now) _ _ c.in-Some.node c.in-Some.ensures.some c.loop-turn.invariant.waiting).1

pub loop-turn-preserved : goal.loop-turn-preserved
loop-turn-preserved c =
    let all = popped (IsOperand c.args.marks.now c.args.kept.now) _ _ c.in-Some.node c.in-Some.ensures.some c.loop-turn.invariant.waiting in
    record {
      waiting = c.in_ok-open_operand-in-Some.ensures.waiting all.0;
      kept = c.in_ok-open_operand-in-Some.ensures.kept c.loop-turn.invariant.kept;
      value = λ v vs computed. taken_value vs c.loop-turn.waiting.items c.take_last.new.nodes.items c.open_operand.new.waiting.items c.loop-turn.leaves.items c.open_operand.new.leaves.items c.in-Some.node _ c.in-Some.ensures.some (c.in_ok-open_operand-in-Some.ensures.value v vs computed) (c.loop-turn.invariant.value v vs computed);
    }
