use Rattle.std.proofs.Common.{◌≡◌, ◌<◌, ℕ, length, slice_index}
use Rattle.bound_uppers.specs.Sums.{before_place}
use Rattle.bound_uppers.proofs.sums.starts.Given as goal

abbrev pub invariant-loop-place : goal.invariant-loop-place
invariant-loop-place l = record {
  sum : l.sum ≡ before_place l.place l.weights;
  count : length l.all.items ≡ l.place;
  each : (other : ℕ) → other < l.place → slice_index l.all.items other ≡ before_place other l.weights;
}
