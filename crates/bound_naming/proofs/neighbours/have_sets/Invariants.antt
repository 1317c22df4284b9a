use Rattle.std.proofs.Common.{◌≡◌, ◌<◌, ℕ, slice_get, Some}
use Rattle.core_tuples.specs.Sets.{IsTupleSet}
use Rattle.bound_uppers.specs.declared.table.Bound.{Bound}
use Rattle.bound_naming.proofs.neighbours.have_sets.Given as goal

abbrev pub invariant-loop-bound : goal.invariant-loop-bound
invariant-loop-bound l = (r : ℕ) (b : Bound) → r < l.bound-index → slice_get l.bounds.relations r ≡ Some b → IsTupleSet b.upper
