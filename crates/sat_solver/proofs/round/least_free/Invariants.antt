use Rattle.std.proofs.Common.{ℕ, ◌<◌, ◌≡◌, pos}
use Rattle.sat_trail.specs.Assignment.{value_at}
use Rattle.sat_solver.proofs.round.least_free.Given as goal

abbrev pub invariant-loop-place : goal.invariant-loop-place
invariant-loop-place l = (k : ℕ) → k < l.place → value_at l.values k ≡ pos 0 → ⊥
