use Rattle.std.proofs.Common.{take}
use Rattle.eval_sets.specs.SetOf.{Gathers}
use Rattle.eval_sets.specs.Rows.{GivesItself}
use Rattle.eval_sets.proofs.rows.passing.Given as goal

abbrev pub invariant-loop-tuple : goal.invariant-loop-tuple
invariant-loop-tuple l = Gathers l.all (GivesItself l.rule l.atoms) (take l.tuple-index l.tuples)
