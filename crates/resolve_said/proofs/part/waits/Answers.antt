use Rattle.std.proofs.Common.{arith}
use Rattle.resolve_said.specs.Operators.{waits}
use Rattle.resolve_said.proofs.part.waits.Goals as goal

pub returns-else-count-len : goal.returns-else-count-len
returns-else-count-len c = λ _ ts same. waits c.in-Some.ensures (omega (arith, same, c.if-count-len.false, c.len.ensures))
