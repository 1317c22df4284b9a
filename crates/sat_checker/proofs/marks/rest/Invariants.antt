use Rattle.std.proofs.Common.{◌≡◌, drop, length}
use Rattle.sat_lrat.specs.Step.{rest_of}
use Rattle.sat_checker.specs.Marks.{fails_by, HasMarks}
use Rattle.sat_checker.specs.Answers.{IfOne, together}
use Rattle.sat_checker.proofs.marks.rest.Given as goal

abbrev pub invariant-loop-literal : goal.invariant-loop-literal
invariant-loop-literal l =
    let fails = fails_by l.stamp l.marks in
    record {
      value : together l.found (rest_of fails (drop l.literal-index l.literals)) ≡ rest_of fails l.literals;
      one : IfOne l.found (HasMarks (length l.marks));
    }
