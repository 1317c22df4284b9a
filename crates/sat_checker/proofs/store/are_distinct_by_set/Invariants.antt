use Rattle.std.proofs.Common.{◌≡◌, ℕ, ◌≤◌, true, drop, length, nat_eq}
use Rattle.std.specs.List.{list_any}
use Rattle.std.specs.HashSet as set
use Rattle.sat_lrat.specs.Step.{are_distinct}
use Rattle.sat_checker.proofs.store.are_distinct_by_set.Given as goal

abbrev pub invariant-loop-place : goal.invariant-loop-place
invariant-loop-place l =
    record {
      within : l.place ≤ length l.ids;
      distinct : are_distinct (drop l.place l.ids) ≡ true;
      seen : (id : ℕ) → set.contains nat_eq l.seen id ≡ list_any (nat_eq id) (drop l.place l.ids);
    }

abbrev pub decreases-loop-place : goal.decreases-loop-place
decreases-loop-place l = l.place
