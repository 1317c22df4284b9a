use Rattle.std.proofs.Common.{take}
use Rattle.eval_sets.specs.SetOf.{Gathers}
use Rattle.eval_sets.specs.Rows.{GivesAfter}
use Rattle.eval_sets.proofs.rows.rows_after.Given as goal

abbrev pub invariant-loop-tuple : goal.invariant-loop-tuple
invariant-loop-tuple l = Gathers l.all (GivesAfter l.begin) (take l.tuple-index l.tuples)
