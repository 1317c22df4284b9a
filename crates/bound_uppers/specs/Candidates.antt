-- The lassos among which one is looked for, and what the variables of a table tell of one.
use Rattle.std.specs.Prelude.{◌≡◌, ◌↔◌, ◌<◌, ℕ, Bool, true, List, length, slice_get, Some, IsTrue}
use Rattle.core_tuples.specs.Sets.{TupleList, IsTupleSet, In}
use Rattle.core_meaning.specs.Sequence.{LassoValue}
use Rattle.bound_uppers.specs.declared.table.Bound.{Bound}
use Rattle.bound_uppers.specs.declared.table.Bounds.{Bounds}
use Rattle.bound_uppers.specs.Table.{truth, variable_of, loop_variable, decoded}

-- a set has its relation's columns, and only tuples of its upper bound
abbrev pub IsWithinBound : Bound → TupleList → Type 0
IsWithinBound b set = IsTupleSet set × (set.arity ≡ b.upper.arity) × ((t : List ℕ) → In t set → In t b.upper)

-- a lasso of as many states as the bounds have, whose relations lie in their upper bounds, and of
-- which what isn't `var` is the same in all states
pub record IsCandidate (bounds : Bounds) (lasso : LassoValue) : Type 0 where
  pub states : length lasso.states ≡ bounds.states
  pub loop : lasso.loop_start < bounds.states
  pub relations : (s : ℕ) (state : List TupleList) → slice_get lasso.states s ≡ Some state → length state ≡ length bounds.relations
  pub within : (s r : ℕ) (state : List TupleList) (set : TupleList) (b : Bound) → slice_get lasso.states s ≡ Some state → slice_get state r ≡ Some set → slice_get bounds.relations r ≡ Some b → IsWithinBound b set
  pub fixed : (s q r : ℕ) (state other : List TupleList) (b : Bound) → slice_get lasso.states s ≡ Some state → slice_get lasso.states q ≡ Some other → slice_get bounds.relations r ≡ Some b → b.fixed ≡ true → slice_get state r ≡ slice_get other r

-- t is in a relation at a state
abbrev pub InState : LassoValue → ℕ → ℕ → List ℕ → Type 0
InState lasso s r t = (state : List TupleList) × (set : TupleList) × (slice_get lasso.states s ≡ Some state) × (slice_get state r ≡ Some set) × In t set

-- the variables of the table tell of a lasso: which tuples its relations have at each state, and,
-- where there are several states, at which one its loop begins
pub record Agrees (bounds : Bounds) (values : List Bool) (lasso : LassoValue) : Type 0 where
  pub tuples : (s r place : ℕ) (b : Bound) (t : List ℕ) → s < bounds.states → slice_get bounds.relations r ≡ Some b → slice_get b.upper.tuples place ≡ Some t → IsTrue (truth values (variable_of bounds.relations b s place)) ↔ InState lasso s r t
  pub loop : 1 < bounds.states → (s : ℕ) → s < bounds.states → IsTrue (truth values (loop_variable bounds s)) ↔ (s ≡ lasso.loop_start)

-- the upper bounds are sets of tuples
abbrev pub HasSets : Bounds → Type 0
HasSets bounds = (r : ℕ) (b : Bound) → slice_get bounds.relations r ≡ Some b → IsTupleSet b.upper

-- one loop variable is true, and no other, where there are several states
abbrev pub HasOneLoop : Bounds → List Bool → Type 0
HasOneLoop bounds values = 1 < bounds.states → (s : ℕ) × (s < bounds.states) × IsTrue (truth values (loop_variable bounds s)) × ((q : ℕ) → q < bounds.states → IsTrue (truth values (loop_variable bounds q)) → q ≡ s)

-- each assignment stands for a candidate
abbrev pub DecodesCandidates : Type 0
DecodesCandidates = (bounds : Bounds) (values : List Bool) → 0 < bounds.states → HasSets bounds → IsCandidate bounds (decoded bounds values)

-- of which it tells, where it chooses one loop
abbrev pub DecodesAgreeing : Type 0
DecodesAgreeing = (bounds : Bounds) (values : List Bool) → HasSets bounds → HasOneLoop bounds values → Agrees bounds values (decoded bounds values)

-- and it tells of no other candidate
abbrev pub DecodesOnce : Type 0
DecodesOnce = (bounds : Bounds) (values : List Bool) (lasso : LassoValue) → HasSets bounds → IsCandidate bounds lasso → Agrees bounds values lasso → lasso ≡ decoded bounds values
