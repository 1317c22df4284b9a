-- The state at a place of a lasso.
use Rattle.std.proofs.Common.{◌≡◌, ℕ, ◌<◌, List, length, slice_get, Some, sym, ap, ◌∙◌}
use Rattle.std.proofs.lemmas.Bool.{cond_below}
use Rattle.core_tuples.specs.Sets.{TupleList}
use Rattle.core_meaning.specs.Sequence.{LassoValue, place_of}

place_is : (l : LassoValue) (i : ℕ) → i < length l.states → place_of l i ≡ i
place_is l i lt = sym (cond_below i (length l.states) i _ lt)

pub shown_at : (l : LassoValue) (i : ℕ) (s : List TupleList) → i < length l.states → slice_get l.states (place_of l i) ≡ Some s → slice_get l.states i ≡ Some s
shown_at l i s lt e = ap (slice_get l.states) (sym (place_is l i lt)) ∙ e
