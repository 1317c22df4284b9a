use Rattle.std.proofs.Common.{take}
use Rattle.eval_sets.specs.SetOf.{Gathers}
use Rattle.eval_sets.specs.Rows.{GivesTwice}
use Rattle.eval_sets.proofs.rows.identity.Given as goal

abbrev pub invariant-loop-tuple : goal.invariant-loop-tuple
invariant-loop-tuple l = Gathers l.all GivesTwice (take l.tuple-index l.tuples)
