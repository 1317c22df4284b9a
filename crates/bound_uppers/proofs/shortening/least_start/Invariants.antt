use Rattle.std.proofs.Common.{◌≡◌, ◌≤◌, ◌<◌, ◌+◌, ℕ, slice_index}
use Rattle.bound_uppers.proofs.shortening.least_start.Given as goal

abbrev pub invariant-loop-place : goal.invariant-loop-place
invariant-loop-place l = record {
  most : l.place ≤ l.start;
  repeats : (i : ℕ) → l.place ≤ i → i < l.start → slice_index l.numbers i ≡ slice_index l.numbers (i + l.period);
}

abbrev pub decreases-loop-place : goal.decreases-loop-place
decreases-loop-place l = l.place
