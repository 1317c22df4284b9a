use Rattle.std.proofs.Common.{◌≡◌, ◌++◌, take}
use Rattle.gate_matrix.specs.Matrices.{tuples_of}
use Rattle.gate_sets.proofs.listing.add_tuples.Given as goal

abbrev pub invariant-loop-place : goal.invariant-loop-place
invariant-loop-place l = l.all.items ≡ l.initial.all.items ++ take l.place (tuples_of l.fn.matrix.entries)
