use Rattle.std.proofs.Common.{arith}
use Rattle.resolve_said.proofs.Lists.{take_range}
use Rattle.resolve_said.proofs.variables.variables_from.Goals as goal

pub returns : goal.returns
returns c = take_range c.args.variables.now c.args.from c.args.count (omega (arith, c.if-from-variables.false)) (omega (arith, c.if-from-variables.false, c.if-count-variables.false))
