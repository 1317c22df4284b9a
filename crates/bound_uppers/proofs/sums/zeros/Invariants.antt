use Rattle.std.proofs.Common.{◌≡◌, ◌<◌, ℕ, length, slice_index}
use Rattle.bound_uppers.proofs.sums.zeros.Given as goal

abbrev pub invariant-loop-place : goal.invariant-loop-place
invariant-loop-place l = record {
  count : length l.all.items ≡ l._place;
  zeros : (other : ℕ) → other < l._place → slice_index l.all.items other ≡ 0;
}
