use Rattle.std.proofs.Common.{◌≡◌}
use Rattle.core_tree.specs.Trees.{term_of}
use Rattle.bmc_walk.specs.Levels.{row_over}
use Rattle.bmc_walk.proofs.levels.row_of.Given as goal

abbrev pub invariant-loop-turn : goal.invariant-loop-turn
invariant-loop-turn l = row_over (term_of l.first) l.operands.items ≡ term_of l.expr
