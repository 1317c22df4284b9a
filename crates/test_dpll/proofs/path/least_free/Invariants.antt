use Rattle.std.proofs.Common.{◌≢◌, ℕ, ◌<◌, None, slice_index_or}
use Rattle.test_dpll.proofs.path.least_free.Given as goal

abbrev pub invariant-loop-place : goal.invariant-loop-place
invariant-loop-place l = (k : ℕ) → k < l.place → slice_index_or l.path.values.items k None ≢ None
