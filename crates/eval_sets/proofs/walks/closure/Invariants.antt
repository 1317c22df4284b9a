use Rattle.eval_sets.proofs.WalkLaw.{IsPartly}
use Rattle.eval_sets.proofs.walks.closure.Given as goal

abbrev pub invariant-loop-round : goal.invariant-loop-round
invariant-loop-round l = IsPartly l.a l.all l.found
