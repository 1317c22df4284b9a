use Rattle.std.proofs.Common.{◌≡◌}
use Rattle.sat_analysis.proofs.Noting.{IsTakenTo}
use Rattle.sat_analysis.proofs.clauses.note_clause.Given as goal

abbrev pub invariant-loop-place : goal.invariant-loop-place
invariant-loop-place l = record {
  variables : l.noted.variables ≡ l.trail.variables;
  taken : IsTakenTo l.literals l.initial.noted.literals l.noted.literals l.place;
}
