use Rattle.std.proofs.Common.{◌≤◌, drop, length}
use Rattle.sat_checker.proofs.Distinct.{IsAscending}
use Rattle.sat_checker.proofs.store.are_rising.Given as goal

abbrev pub invariant-loop-place : goal.invariant-loop-place
invariant-loop-place l =
    record {
      within : l.place ≤ length l.ids;
      rising : IsAscending (drop l.place l.ids);
    }

abbrev pub decreases-loop-place : goal.decreases-loop-place
decreases-loop-place l = l.place
