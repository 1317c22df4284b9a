use Rattle.std.proofs.Common.{◌≡◌, ◌+◌, drop}
use Rattle.std.specs.FinMap as map
use Rattle.sat_lrat.specs.Step.{numbered}
use Rattle.sat_checker.proofs.checker.Checker.new.Given as goal

abbrev pub invariant-loop-clause : goal.invariant-loop-clause
invariant-loop-clause l =
    record {
      numbered : numbered l.checker.standing (l.clause-index + 1) (drop l.clause-index l.clause-items) ≡ numbered map.empty 1 l.clause-items;
      top : l.checker.top ≡ l.clause-index;
    }
