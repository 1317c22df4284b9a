use Rattle.std.proofs.Common.{arith, append_assoc}
use Rattle.syntax_tree.proofs.Spells.{spelling-Name, spelling-Constant}
use Rattle.syntax_expr.proofs.primary.word_primary.Goals as goal

pub returns-then-begins_own : goal.returns-then-begins_own
returns-then-begins_own c = grind (arith, spelling-Name, append_assoc)

pub returns : goal.returns
returns c = grind (arith, spelling-Constant, append_assoc)
