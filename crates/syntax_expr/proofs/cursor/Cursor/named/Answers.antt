use Rattle.syntax_expr.proofs.cursor.Cursor.named.Goals as goal

pub returns : goal.returns
returns c = c.in_ok-name.ensures
