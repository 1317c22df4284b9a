use Rattle.std.proofs.Common.{take}
use Rattle.eval_sets.specs.SetOf.{Gathers}
use Rattle.eval_sets.specs.Rows.{GivesBefore}
use Rattle.eval_sets.proofs.rows.rows_before.Given as goal

abbrev pub invariant-loop-tuple : goal.invariant-loop-tuple
invariant-loop-tuple l = Gathers l.all (GivesBefore l.end) (take l.tuple-index l.tuples)
