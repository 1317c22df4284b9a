use Rattle.std.proofs.Common.{arith, append_assoc}
use Rattle.syntax_tree.proofs.Spells.{spelling-Name, spelling-Number, spelling-Literal}
use Rattle.syntax_expr.proofs.grammar.Grammar.primary.Goals as goal

pub returns-in_ok-qual_name-in-Name : goal.returns-in_ok-qual_name-in-Name
returns-in_ok-qual_name-in-Name g c = grind (arith, spelling-Name, append_assoc)

pub returns-in-Number : goal.returns-in-Number
returns-in-Number g c = grind (arith, spelling-Number, append_assoc)

pub returns-in_ok-text-in-Literal : goal.returns-in_ok-text-in-Literal
returns-in_ok-text-in-Literal g c = grind (arith, spelling-Literal, append_assoc)
