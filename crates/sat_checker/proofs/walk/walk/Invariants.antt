use Rattle.std.proofs.Common.{◌≡◌, drop}
use Rattle.sat_lrat.specs.Step.{walk}
use Rattle.sat_checker.specs.Marks.{fails_by, AreUpTo}
use Rattle.sat_checker.specs.Table.{found}
use Rattle.sat_checker.proofs.walk.walk.Given as goal

abbrev pub invariant-loop-hint : goal.invariant-loop-hint
invariant-loop-hint l =
    let clause_of = found l.clauses in
    record {
      rule : walk clause_of (fails_by l.stamp l.marks) (drop l.hint-index l.hints) ≡ walk clause_of (fails_by l.stamp l.initial.marks) l.hints;
      up_to : AreUpTo l.stamp l.marks;
    }
