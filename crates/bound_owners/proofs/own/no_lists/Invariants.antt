use Rattle.std.proofs.Common.{◌≡◌, ℕ, [], get_or, length}
use Rattle.bound_owners.proofs.own.no_lists.Given as goal

abbrev pub invariant-loop-place : goal.invariant-loop-place
invariant-loop-place l = (length l.lists.items ≡ l._place) × ((s : ℕ) → get_or l.lists.items s [] ≡ [])
