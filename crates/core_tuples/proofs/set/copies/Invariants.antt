use Rattle.std.proofs.Common.{◌≡◌, take}
use Rattle.core_tuples.proofs.set.copies.Given as goal

abbrev pub invariant-loop-tuple : goal.invariant-loop-tuple
invariant-loop-tuple l = l.all.items ≡ take l.tuple-index l.tuples
