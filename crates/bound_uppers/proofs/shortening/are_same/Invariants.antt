use Rattle.std.proofs.Common.{◌≡◌, ◌<◌, ℕ, slice_get}
use Rattle.bound_uppers.proofs.shortening.are_same.Given as goal

abbrev pub invariant-loop-relation : goal.invariant-loop-relation
invariant-loop-relation l = (k : ℕ) → k < l.relation → slice_get l.a k ≡ slice_get l.b k
