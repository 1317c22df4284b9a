-- What an assignment of the table's variables says of a lasso.
use Rattle.std.specs.Prelude.{◌≡◌, ◌↔◌, ◌<◌, ◌+◌, ◌*◌, ℕ, zero, suc, Bool, true, false, List, Contains, length, slice_get, Some}
use Rattle.core_tuples.specs.Sets.{TupleList}
use Rattle.core_meaning.specs.Sequence.{LassoValue}
use Rattle.bound_uppers.specs.declared.places.Cells.{Cells}
use Rattle.bound_uppers.specs.declared.places.Layout.{Layout}
use Rattle.bound_uppers.specs.declared.table.Bound.{Bound}
use Rattle.bound_uppers.specs.declared.table.Bounds.{Bounds}
use Rattle.bmc_leaves.specs.Loops.{IsLoopOf}

-- the variable of the first tuple of a relation at a state; a fixed relation has those of state 0 in each
abbrev pub first_at : Bool → Cells → ℕ → ℕ
first_at true cells state = cells.first
first_at false cells zero = cells.first
first_at false cells (suc state) = cells.next + state * cells.stride

-- the variable of the tuple at a place of the upper bound is true at one of so many states
abbrev pub IsEver : (ℕ → Bool) → Bool → Cells → ℕ → ℕ → Type 0
IsEver x fixed cells states place = (k : ℕ) × (k < states) × (x (first_at fixed cells k + place) ≡ true)

-- the tuple is one of the upper bound, and its variable at the state is true
abbrev pub InTable : (ℕ → Bool) → Bound → Cells → ℕ → List ℕ → Type 0
InTable x bound cells state t = (j : ℕ) × (slice_get bound.upper.tuples j ≡ Some t) × (x (first_at bound.fixed cells state + j) ≡ true)

-- the tuple is in the relation at this state of the lasso
abbrev pub InState : LassoValue → ℕ → ℕ → List ℕ → Type 0
InState lasso relation state t = (sets : List TupleList) × (set : TupleList) × (slice_get lasso.states state ≡ Some sets) × (slice_get sets relation ≡ Some set) × Contains set.tuples t

-- the lasso for which the assignment stands: as many states as the bounds say, the loop that is chosen, and in
-- each relation at each state just the tuples whose variables are true
pub record Decodes (bounds : Bounds) (table : Layout) (x : ℕ → Bool) (lasso : LassoValue) : Type 0 where
  pub states : length lasso.states ≡ bounds.states
  pub loop : IsLoopOf bounds.states table.loops x lasso.loop_start
  pub relations : (r k : ℕ) (bound : Bound) (cells : Cells) → slice_get bounds.relations r ≡ Some bound → slice_get table.relations.items r ≡ Some cells → k < bounds.states → (t : List ℕ) → InState lasso r k t ↔ InTable x bound cells k t
