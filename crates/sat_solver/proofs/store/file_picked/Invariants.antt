use Rattle.std.proofs.Common.{◌≡◌, ◌+◌, ◌≤◌, ℕ, true, false, length, get_or}
use Rattle.sat_dropped.specs.Entries.{HasEntry}
use Rattle.sat_solver.specs.Covered.{IsIndexed}
use Rattle.sat_solver.proofs.store.file_picked.Given as goal

abbrev pub invariant-loop-place : goal.invariant-loop-place
invariant-loop-place l = record {
  count : length l.marks.items ≡ l.place;
  indexed : IsIndexed l.trail l.dropped;
  kept : (n : ℕ) → HasEntry l.initial.dropped n → HasEntry l.dropped n;
  marked : (i : ℕ) → get_or l.marks.items i false ≡ true → (l.first ≤ i) × HasEntry l.dropped (i + 1);
}
