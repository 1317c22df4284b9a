use Rattle.std.proofs.Common.{◌≡◌, ℕ}
use Rattle.core_tree.specs.Trees.{claim_of}
use Rattle.bmc_walk.specs.Levels.{doubly_negated}
use Rattle.bmc_walk.proofs.levels.without_doubles.Given as goal

abbrev pub invariant-loop-turn : goal.invariant-loop-turn
invariant-loop-turn l = (n : ℕ) × (claim_of l.formula ≡ doubly_negated n (claim_of l.inner))
