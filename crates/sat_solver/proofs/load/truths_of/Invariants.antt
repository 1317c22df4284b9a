use Rattle.std.proofs.Common.{ℕ, ◌<◌, ◌≡◌, ◌↔◌, pos, true, false, length, get_or}
use Rattle.sat_trail.specs.Assignment.{value_at}
use Rattle.sat_solver.proofs.load.truths_of.Given as goal

abbrev pub invariant-loop-place : goal.invariant-loop-place
invariant-loop-place l = record {
  count : length l.truths.items ≡ l.place;
  truths : (k : ℕ) → k < l.place → (get_or l.truths.items k false ≡ true) ↔ (value_at l.values k ≡ pos 1);
}
