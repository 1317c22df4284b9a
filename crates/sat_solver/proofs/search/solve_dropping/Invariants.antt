use Rattle.std.proofs.Common.{◌≡◌}
use Rattle.sat_solver.specs.Searched.{IsSearch}
use Rattle.sat_solver.specs.Turn.{AreWithin, left}
use Rattle.sat_solver.proofs.search.solve_dropping.Given as goal

abbrev pub invariant-turns : goal.invariant-turns
invariant-turns g l = record {
  search : IsSearch l.cnf.clauses l.log.lines l.log.checker l.trail l.store.first l.store.dropped;
  analysis : l.analysis.variables ≡ l.trail.variables;
  variables : l.trail.variables ≡ l.cnf.variables;
  room : AreWithin l.budget l.log.lines;
}

abbrev pub decreases-turns : goal.decreases-turns
decreases-turns g l = left l.trail.variables l.cnf.clauses l.log.lines l.store.dropped l.trail.assignment.trail
