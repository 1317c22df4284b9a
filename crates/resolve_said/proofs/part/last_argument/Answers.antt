use Rattle.std.proofs.Common.{arith}
use Rattle.resolve_said.proofs.Taken.{last_case}
use Rattle.resolve_said.proofs.part.last_argument.Goals as goal

pub returns : goal.returns
returns c = λ bodies all call. last_case bodies c.args.body c.args.arguments.now c.index-arguments-last.result all (omega (arith, c.if-count-eq0.false)) c.index-arguments-last.is call
