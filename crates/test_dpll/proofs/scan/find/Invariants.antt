use Rattle.test_dpll.specs.Scan.{IsFound}
use Rattle.test_dpll.proofs.scan.find.Given as goal

abbrev pub invariant-loop-place : goal.invariant-loop-place
invariant-loop-place l = IsFound l.path l.clauses l.place l.found
