use Rattle.std.proofs.Common.{◌≡◌, ◌++◌, ◌≤◌, take, length, reverse}
use Rattle.test_dpll.specs.Steps.{denial_of}
use Rattle.test_dpll.proofs.path.denial.Given as goal

abbrev pub invariant-loop-place : goal.invariant-loop-place
invariant-loop-place l =
    record {
      within : l.place ≤ length l.path.steps.items;
      clause : l.clause ++ denial_of (reverse (take l.place l.path.steps.items)) ≡ denial_of (reverse l.path.steps.items);
    }

abbrev pub decreases-loop-place : goal.decreases-loop-place
decreases-loop-place l = l.place
