use Rattle.std.proofs.Common.{arith}
use Rattle.resolve_check.specs.Names.{names_of}
use Rattle.resolve_check.proofs.Steps.{under_step}
use Rattle.resolve_check.proofs.names.names_under.Goals as goal

pub loop-variable-preserved : goal.loop-variable-preserved
loop-variable-preserved c = under_step c.args.list.now c.loop-variable.variable-index _ c.variable-item.result (names_of c.args.names.now) c.loop-variable.all c.push.new.self (omega arith) c.loop-variable-test.true c.variable-item.is c.loop-variable.invariant c.in_ok-push.ensures.ok
