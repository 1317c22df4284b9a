use Rattle.std.proofs.Common.{take}
use Rattle.eval_sets.specs.SetOf.{Gathers}
use Rattle.eval_sets.specs.Rows.{GivesFirst}
use Rattle.eval_sets.proofs.rows.firsts.Given as goal

abbrev pub invariant-loop-tuple : goal.invariant-loop-tuple
invariant-loop-tuple l = Gathers l.all GivesFirst (take l.tuple-index l.tuples)
