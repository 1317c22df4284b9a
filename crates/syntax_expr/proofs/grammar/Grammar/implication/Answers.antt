use Rattle.std.proofs.Common.{arith, append_assoc}
use Rattle.syntax_tree.proofs.Spells.{spelling-Implication}
use Rattle.syntax_expr.proofs.grammar.Grammar.implication.Goals as goal

pub returns : goal.returns
returns g c = grind (arith, spelling-Implication, append_assoc)
