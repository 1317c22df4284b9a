use Rattle.std.proofs.Common.{◌∙◌, sym}
use Rattle.bound_uppers.proofs.Choosing.{loop_here, loop_nowhere}
use Rattle.bound_uppers.proofs.decoding.first_true.Goals as goal

pub returns-then-is_true-clause-first : goal.returns-then-is_true-clause-first
returns-then-is_true-clause-first c = loop_here c.args.assignment.now c.args.loops c.args.states c.loop-state.state c.loop-state-test.true (sym c.is_true.ensures ∙ c.if-is_true.true) c.loop-state.invariant

pub returns-clause-first : goal.returns-clause-first
returns-clause-first c = loop_nowhere c.args.assignment.now c.args.loops c.args.states c.loop-state.state c.loop-state-test.false c.loop-state.invariant
