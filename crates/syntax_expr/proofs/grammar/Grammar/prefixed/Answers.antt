use Rattle.std.proofs.Common.{arith, append_assoc}
use Rattle.syntax_tree.proofs.Spells.{spelling-Prefix}
use Rattle.syntax_expr.proofs.grammar.Grammar.prefixed.Goals as goal

pub returns : goal.returns
returns g c = grind (arith, spelling-Prefix, append_assoc)
