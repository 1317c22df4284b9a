use Rattle.std.proofs.Common.{◌≡◌, take}
use Rattle.sat_solver.proofs.load.clause_of.Given as goal

abbrev pub invariant-loop-literal : goal.invariant-loop-literal
invariant-loop-literal l = l.clause ≡ take l.literal-index l.literals
