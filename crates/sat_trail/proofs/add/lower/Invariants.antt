use Rattle.std.proofs.Common.{◌≡◌, ℕ, ◌<◌, ◌≤◌, length, slice_index}
use Rattle.sat_trail.proofs.add.lower.Given as goal

abbrev pub invariant-loop-place : goal.invariant-loop-place
invariant-loop-place l = record {
  len : length l.numbers.items ≡ length l.initial.numbers.items;
  lowered : (k : ℕ) → k < l.place → (slice_index l.numbers.items k ≤ slice_index l.initial.numbers.items k) × (slice_index l.numbers.items k ≤ l.bound);
  rest : (k : ℕ) → l.place ≤ k → slice_index l.numbers.items k ≡ slice_index l.initial.numbers.items k;
}
