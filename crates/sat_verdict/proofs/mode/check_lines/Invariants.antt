use Rattle.std.proofs.Common.{◌≤◌, ◌-◌, List, ℤ, length}
use Rattle.sat_lrat.specs.Step.{Follows}
use Rattle.sat_verdict.specs.declared.mode.Verdict.{Verdict}
use Rattle.sat_verdict.specs.Mode.{Ends}
use Rattle.sat_verdict.proofs.mode.check_lines.Given as goal

abbrev pub invariant-lines : goal.invariant-lines
invariant-lines l =
    record {
      verdict : (verdict : Verdict) → Ends l.proof l.from l.lemmas l.checker verdict → Ends l.proof 0 0 l.initial.checker verdict;
      follows : (formula : List (List ℤ)) → Follows formula l.initial.checker → Follows formula l.checker;
      place : l.from ≤ length l.proof;
      few : l.lemmas ≤ l.from;
    }

abbrev pub decreases-lines : goal.decreases-lines
decreases-lines l = length l.proof - l.from
