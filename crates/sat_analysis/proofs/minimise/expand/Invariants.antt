use Rattle.std.proofs.Common.{◌≡◌, ◌≤◌, length}
use Rattle.sat_analysis.specs.Resolved.{IsSpreadTo}
use Rattle.sat_analysis.proofs.minimise.expand.Given as goal

abbrev pub invariant-loop-place : goal.invariant-loop-place
invariant-loop-place l = record {
  variables : l.noted.variables ≡ l.trail.variables;
  from : length l.fn.noted.literals ≤ l.place;
  spread : IsSpreadTo l.trail l.fn.noted.literals l.noted.literals l.literal l.place;
}
