use Rattle.std.proofs.Common.{arith, append_assoc}
use Rattle.syntax_tree.proofs.Spells.{spelling-Compare}
use Rattle.syntax_expr.proofs.grammar.Grammar.compare.Goals as goal

pub returns : goal.returns
returns g c = grind (arith, spelling-Compare, append_assoc)
