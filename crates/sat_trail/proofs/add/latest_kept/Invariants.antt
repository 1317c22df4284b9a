use Rattle.std.proofs.Common.{◌≡◌, ◌≢◌, ℕ, ◌<◌, ◌≤◌, length}
use Rattle.sat_trail.specs.Assignment.{value_at}
use Rattle.sat_trail.proofs.add.latest_kept.Given as goal

abbrev pub invariant-loop-place : goal.invariant-loop-place
invariant-loop-place l = record {
  within : l.best ≤ length l.literals;
  unlike : l.best < length l.literals → value_at l.literals l.best ≢ l.skip;
  none : l.best ≡ length l.literals → (p : ℕ) → p < l.place → value_at l.literals p ≡ l.skip;
}
