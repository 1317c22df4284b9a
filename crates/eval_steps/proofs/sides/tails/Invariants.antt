use Rattle.std.proofs.Common.{take}
use Rattle.eval_sets.specs.SetOf.{Gathers}
use Rattle.eval_steps.specs.Judged.{GivesTail}
use Rattle.eval_steps.proofs.sides.tails.Given as goal

abbrev pub invariant-loop-tuple : goal.invariant-loop-tuple
invariant-loop-tuple l = Gathers l.all (GivesTail l.columns) (take l.tuple-index l.tuples)
