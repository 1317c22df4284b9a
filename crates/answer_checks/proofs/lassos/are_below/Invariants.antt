use Rattle.std.proofs.Common.{◌<◌, All, take}
use Rattle.answer_checks.proofs.lassos.are_below.Given as goal

abbrev pub invariant-loop-number : goal.invariant-loop-number
invariant-loop-number l = All (λ a. a < l.count) (take l.number-index l.numbers)
