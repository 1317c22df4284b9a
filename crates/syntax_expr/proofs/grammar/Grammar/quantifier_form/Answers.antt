use Rattle.std.proofs.Common.{arith, append_assoc}
use Rattle.syntax_tree.proofs.Spells.{spelling-Quantified}
use Rattle.syntax_expr.proofs.grammar.Grammar.quantifier_form.Goals as goal

pub returns : goal.returns
returns g c = grind (arith, spelling-Quantified, append_assoc)
