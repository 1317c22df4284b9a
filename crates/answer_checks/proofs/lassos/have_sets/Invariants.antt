use Rattle.std.proofs.Common.{◌≡◌, ◌<◌, ℕ, Some, slice_get}
use Rattle.core_tuples.specs.Sets.{TupleList, IsTupleSet}
use Rattle.answer_checks.proofs.lassos.have_sets.Given as goal

abbrev pub invariant-loop-place : goal.invariant-loop-place
invariant-loop-place l = (k : ℕ) (set : TupleList) → k < l.place → slice_get l.state k ≡ Some set → IsTupleSet set
