use Rattle.std.proofs.Common.{rules}
use Rattle.syntax_expr.proofs.Places.{one_left}
use Rattle.syntax_expr.proofs.cursor.Cursor.is_at_end.Goals as goal

pub returns-in-len1 : goal.returns-in-len1
returns-in-len1 c = one_left c.args.self.now (search rules) (search rules)
