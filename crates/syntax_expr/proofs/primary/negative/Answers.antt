use Rattle.std.proofs.Common.{arith, append_assoc}
use Rattle.syntax_tree.proofs.Spells.{spelling-Negative}
use Rattle.syntax_expr.proofs.primary.negative.Goals as goal

pub returns-in-Number : goal.returns-in-Number
returns-in-Number c = grind (arith, spelling-Negative, append_assoc)
