use Rattle.std.proofs.Common.{◌≡◌, ◌≢◌, drop}
use Rattle.sat_checker.specs.Answers.{together}
use Rattle.test_dpll.specs.declared.scan.Status.TheVariants.{True}
use Rattle.test_dpll.specs.Scan.{rest_by, rest_from, IfFree}
use Rattle.test_dpll.proofs.scan.status_of.Given as goal

abbrev pub invariant-loop-literal : goal.invariant-loop-literal
invariant-loop-literal l =
    record {
      rest : together (rest_from l.found) (rest_by l.path (drop l.literal-index l.literals)) ≡ rest_by l.path l.literals;
      free : IfFree l.path l.found;
      kind : l.found ≢ True;
    }
