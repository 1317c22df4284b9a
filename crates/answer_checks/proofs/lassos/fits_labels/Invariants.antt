use Rattle.std.proofs.Common.{◌≡◌, ◌<◌, ℕ, List, Some, slice_get}
use Rattle.core_tuples.specs.Sets.{TupleList}
use Rattle.answer_checks.specs.Parts.{IsStateOf}
use Rattle.answer_checks.proofs.lassos.fits_labels.Given as goal

abbrev pub invariant-loop-place : goal.invariant-loop-place
invariant-loop-place l = (k : ℕ) (s : List TupleList) → k < l.place → slice_get l.lasso.states k ≡ Some s → IsStateOf l.labels s
