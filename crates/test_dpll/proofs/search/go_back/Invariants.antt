use Rattle.std.proofs.Common.{◌≡◌, ◌<◌, length}
use Rattle.test_dpll.specs.Path.{steps_of}
use Rattle.test_dpll.specs.Progress.{come_to}
use Rattle.test_dpll.specs.Search.{IsSearch, CanDeny, end_of}
use Rattle.test_dpll.proofs.search.go_back.Given as goal

abbrev pub invariant-steps : goal.invariant-steps
invariant-steps l =
    record {
      kept : IsSearch l.cnf.clauses l.log l.path;
      follows : CanDeny l.log.checker (steps_of l.path) l.first l.second;
      size : length l.path.values.items ≡ length l.fn.path.values.items;
      before : come_to (length l.fn.path.values.items) (steps_of l.fn.path) < end_of (length l.fn.path.values.items) (steps_of l.path);
    }

abbrev pub decreases-steps : goal.decreases-steps
decreases-steps l = length (steps_of l.path)
