use Rattle.std.proofs.Common.{◌≢◌, ◌<◌, ℕ, slice_get}
use Rattle.bound_uppers.proofs.shortening.first_same.Given as goal

abbrev pub invariant-loop-other : goal.invariant-loop-other
invariant-loop-other l = (k : ℕ) → k < l.other → slice_get l.lasso.states k ≢ slice_get l.lasso.states l.state
