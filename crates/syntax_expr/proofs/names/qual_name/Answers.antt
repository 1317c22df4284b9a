use Rattle.std.proofs.Common.{rules}
use Rattle.syntax_expr.proofs.Places.{some_has}
use Rattle.syntax_expr.proofs.names.qual_name.Goals as goal

pub returns-clause-right : goal.returns-clause-right
returns-clause-right c = some_has c.in_ok-parts.parts (search rules)
