use Rattle.std.proofs.Common.{◌≡◌, length}
use Rattle.test_dpll.specs.Path.{steps_of}
use Rattle.test_dpll.specs.Progress.{left}
use Rattle.test_dpll.specs.Search.{IsSearch}
use Rattle.test_dpll.proofs.search.split.Given as goal

abbrev pub invariant-turns : goal.invariant-turns
invariant-turns l =
    record {
      kept : IsSearch l.cnf.clauses l.log l.path;
      size : length l.path.values.items ≡ l.cnf.variables;
    }

abbrev pub decreases-turns : goal.decreases-turns
decreases-turns l = left l.cnf.variables (steps_of l.path)
