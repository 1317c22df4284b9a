use Rattle.std.proofs.Common.{arith, append_assoc}
use Rattle.syntax_tree.proofs.Spells.{spelling-At}
use Rattle.syntax_expr.proofs.primary.at_name.Goals as goal

pub returns : goal.returns
returns c = grind (arith, spelling-At, append_assoc)
