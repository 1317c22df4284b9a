use Rattle.std.proofs.Common.{◌≡◌, take}
use Rattle.core_tuples.specs.Index.{index_of}
use Rattle.core_tuples.proofs.keyed.index_of_numbers.Given as goal

abbrev pub invariant-loop-number : goal.invariant-loop-number
invariant-loop-number l = l.index ≡ index_of (take l.number-index l.numbers)
