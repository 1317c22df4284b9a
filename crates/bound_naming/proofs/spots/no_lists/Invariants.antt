use Rattle.std.proofs.Common.{◌≡◌, ℕ, [], get_or, length}
use Rattle.bound_naming.proofs.spots.no_lists.Given as goal

abbrev pub invariant-loop-place : goal.invariant-loop-place
invariant-loop-place l = (length l.lists.items ≡ l._place) × ((a : ℕ) → get_or l.lists.items a [] ≡ [])
