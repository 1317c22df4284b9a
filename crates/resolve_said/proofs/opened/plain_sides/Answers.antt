use Rattle.resolve_said.specs.Operators.{equals}
use Rattle.resolve_said.proofs.opened.plain_sides.Goals as goal

pub returns-in_ok-sides-in-Equal : goal.returns-in_ok-sides-in-Equal
returns-in_ok-sides-in-Equal c = rw c.in-Equal.is (rw c.in_ok-sides-in-Equal.ensures equals)
