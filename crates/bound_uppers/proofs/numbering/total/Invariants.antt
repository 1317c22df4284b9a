use Rattle.std.proofs.Common.{◌≡◌, take}
use Rattle.bound_uppers.specs.Table.{together}
use Rattle.bound_uppers.proofs.numbering.total.Given as goal

abbrev pub invariant-loop-bound : goal.invariant-loop-bound
invariant-loop-bound l = l.count ≡ together l.later (take l.bound-index l.relations)
