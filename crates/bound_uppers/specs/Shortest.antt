-- The lasso with fewest states of a sequence.
use Rattle.std.specs.Prelude.{◌≡◌, ◌<◌, ◌≤◌, ℕ, List, Option, length, slice_get}
use Rattle.core_tuples.specs.Sets.{TupleList}
use Rattle.core_meaning.specs.Sequence.{LassoValue, place_of}

-- the state that a position of a lasso shows
abbrev pub shown : LassoValue → ℕ → Option (List TupleList)
shown lasso position = slice_get lasso.states (place_of lasso position)

-- two lassos that show the same at every position
abbrev pub IsSameSequence : LassoValue → LassoValue → Type 0
IsSameSequence a b = (position : ℕ) → shown a position ≡ shown b position

-- there is a state to which one goes from the last
abbrev pub IsLasso : LassoValue → Type 0
IsLasso lasso = lasso.loop_start < length lasso.states

-- no lasso that shows the same has fewer states
abbrev pub HasFewestStates : LassoValue → Type 0
HasFewestStates lasso = (other : LassoValue) → IsLasso other → IsSameSequence other lasso → length lasso.states ≤ length other.states

-- and no lasso that shows the same begins its loop earlier
abbrev pub HasEarliestLoop : LassoValue → Type 0
HasEarliestLoop lasso = (other : LassoValue) → IsLasso other → IsSameSequence other lasso → lasso.loop_start ≤ other.loop_start

-- every lasso of at most so many states shows the sequence of one of exactly so many
abbrev pub Unrolls : Type 0
Unrolls = (lasso : LassoValue) (count : ℕ) → IsLasso lasso → length lasso.states ≤ count → (other : LassoValue) × IsLasso other × (length other.states ≡ count) × IsSameSequence lasso other
