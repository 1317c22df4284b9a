use Rattle.std.proofs.Common.{ℕ, ◌<◌, ◌≤◌}
use Rattle.sat_analysis.specs.Resolved.{IsMetIn}
use Rattle.sat_analysis.proofs.point.is_any_met.Given as goal

abbrev pub invariant-down : goal.invariant-down
invariant-down l = record {
  within : l.place ≤ l.to;
  none : (j : ℕ) → l.place ≤ j → j < l.to → IsMetIn l.literals l.noted.literals j → ⊥;
}

abbrev pub decreases-down : goal.decreases-down
decreases-down l = l.place
