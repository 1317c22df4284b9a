use Rattle.std.proofs.Common.{◌<◌, All, take}
use Rattle.answer_checks.proofs.lassos.have_below.Given as goal

abbrev pub invariant-loop-tuple : goal.invariant-loop-tuple
invariant-loop-tuple l = All (All (λ a. a < l.count)) (take l.tuple-index l.tuples)
