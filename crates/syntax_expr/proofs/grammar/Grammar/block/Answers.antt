use Rattle.std.proofs.Common.{arith, append_assoc}
use Rattle.syntax_tree.proofs.Spells.{spelling-Block}
use Rattle.syntax_expr.proofs.grammar.Grammar.block.Goals as goal

pub returns : goal.returns
returns g c = grind (arith, spelling-Block, append_assoc)

pub returns-then-is_empty : goal.returns-then-is_empty
returns-then-is_empty g c = grind (arith, spelling-Block, append_assoc)
