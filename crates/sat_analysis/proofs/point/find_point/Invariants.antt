use Rattle.std.proofs.Common.{◌≡◌, ◌-◌, ◌≤◌, length}
use Rattle.sat_trail.specs.State.{clause_at}
use Rattle.sat_analysis.specs.Resolved.{IsBack}
use Rattle.sat_analysis.proofs.point.find_point.Given as goal

abbrev pub invariant-back : goal.invariant-back
invariant-back l = record {
  variables : l.noted.variables ≡ l.trail.variables;
  within : l.place ≤ length l.trail.assignment.trail;
  back : IsBack l.trail (clause_at l.trail (l.conflict - 1)) l.noted.literals l.places.items l.place;
}

abbrev pub decreases-back : goal.decreases-back
decreases-back l = l.place
