use Rattle.std.proofs.Common.{arith, append_assoc}
use Rattle.syntax_tree.proofs.Spells.{spelling-Let}
use Rattle.syntax_expr.proofs.grammar.Grammar.let_form.Goals as goal

pub returns : goal.returns
returns g c = grind (arith, spelling-Let, append_assoc)
