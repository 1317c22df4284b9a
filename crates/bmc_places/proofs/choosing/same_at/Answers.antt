use Rattle.std.proofs.Common.{arith}
use Rattle.bmc_places.proofs.ChosenLaws.{same_places}
use Rattle.bmc_places.proofs.choosing.same_at.Goals as goal

pub returns-then-left-right : goal.returns-then-left-right
returns-then-left-right c = λ t. same_places c.args.row.now c.args.i c.args.j 0 (omega (arith, c.if-i-row.false)) (omega (arith, c.if-j-row.false)) (omega (arith, c.if-left-right.true))
