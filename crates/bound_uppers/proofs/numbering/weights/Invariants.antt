use Rattle.std.proofs.Common.{◌≡◌, map, take}
use Rattle.bound_uppers.specs.Numbers.{weight_of}
use Rattle.bound_uppers.proofs.numbering.weights.Given as goal

abbrev pub invariant-loop-bound : goal.invariant-loop-bound
invariant-loop-bound l = l.all.items ≡ map (weight_of l.later) (take l.bound-index l.relations)
