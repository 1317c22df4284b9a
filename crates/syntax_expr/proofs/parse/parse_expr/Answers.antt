use Rattle.std.proofs.Common.{rules, arith, append_assoc}
use Rattle.syntax_tree.specs.Spelling.{spelling}
use Rattle.syntax_expr.proofs.Places.{spells_read}
use Rattle.syntax_expr.proofs.parse.parse_expr.Goals as goal

pub returns-clause-spells : goal.returns-clause-spells
returns-clause-spells c = spells_read c.args.tokens.now c.expr_at.new.cursor c.args.from _ (spelling c.in_ok-tree.tree) c.requires.in_range (search rules) (grind arith) (grind (arith, append_assoc))
