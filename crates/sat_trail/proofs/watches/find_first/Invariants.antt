use Rattle.std.proofs.Common.{◌≡◌, ℕ, neg_ℤ, ◌<◌, ◌≤◌, ◌⊎◌}
use Rattle.std.specs.List.{Contains}
use Rattle.sat_trail.specs.Assignment.{value_at}
use Rattle.sat_trail.proofs.watches.find_first.Given as goal

abbrev pub invariant-loop-place : goal.invariant-loop-place
invariant-loop-place l =
    (p : ℕ) → l.first ≤ p → p < l.place → (value_at l.arena.literals.items p ≡ l.other) ⊎ Contains l.assigned.trail (neg_ℤ (value_at l.arena.literals.items p))
