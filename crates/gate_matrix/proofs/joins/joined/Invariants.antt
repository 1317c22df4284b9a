use Rattle.std.proofs.Common.{◌≡◌, ◌++◌, take}
use Rattle.gate_matrix.proofs.joins.joined.Given as goal

abbrev pub invariant-loop-number : goal.invariant-loop-number
invariant-loop-number l = l.tuple ≡ l.head ++ take l.number-index l.rest
