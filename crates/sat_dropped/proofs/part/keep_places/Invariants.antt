use Rattle.std.proofs.Common.{◌≡◌, ◌<◌, ℕ, length}
use Rattle.sat_trail.specs.Assignment.{value_at}
use Rattle.sat_dropped.specs.Part.{IsPlaced}
use Rattle.sat_dropped.proofs.part.keep_places.Given as goal

abbrev pub invariant-loop-place : goal.invariant-loop-place
invariant-loop-place l = record {
  count : length l.places.items ≡ length l.initial.places.items;
  placed : (j : ℕ) → j < l.place → IsPlaced l.places.items l.literals (value_at l.literals j);
}
