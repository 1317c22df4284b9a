use Rattle.std.proofs.Common.{◌≡◌, ℕ, false, get_or, length}
use Rattle.bound_owners.proofs.own.no_marks.Given as goal

abbrev pub invariant-loop-place : goal.invariant-loop-place
invariant-loop-place l = (length l.marks.items ≡ l._place) × ((s : ℕ) → get_or l.marks.items s false ≡ false)
