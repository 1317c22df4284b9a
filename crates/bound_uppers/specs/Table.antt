-- The table of variables, and the lasso for which an assignment of them stands.
use Rattle.std.specs.Prelude.{◌≡◌, ◌⊎◌, ◌<◌, ◌≤◌, ◌^◌, ℕ, zero, suc, ◌+◌, ◌*◌, Bool, true, false, if◌then◌else◌, nat_lt, map, List, [], ◌∷◌, ◌++◌, length, slice_get, slice_index_or, Some, sum_by}
use Rattle.std.specs.List.{range_with_len}
use Rattle.core_tuples.specs.Sets.{TupleList}
use Rattle.core_tree.specs.declared.model.Model.{Model}
use Rattle.core_tree.specs.declared.model.Sig.{Sig}
use Rattle.core_tree.specs.declared.model.Field.{Field}
use Rattle.core_meaning.specs.Sequence.{LassoValue}
use Rattle.bound_uppers.specs.declared.table.Bound.{Bound}
use Rattle.bound_uppers.specs.declared.table.Bounds.{Bounds}
use Rattle.bound_uppers.specs.declared.places.Cells.{Cells}
use Rattle.bound_uppers.specs.declared.places.Layout.{Layout}

-- how many variables a relation has at the first state, and at each later one: one for each tuple of
-- its upper bound, but none at later states where it is the same in all
abbrev pub size_at : Bool → Bound → ℕ
size_at false b = length b.upper.tuples
size_at true b = if b.fixed then 0 else length b.upper.tuples

-- how many some relations have together
abbrev pub together : Bool → List Bound → ℕ
together later = sum_by (size_at later)

-- how many those have together that stand before a place of the order
abbrev pub before : Bool → ℕ → List Bound → ℕ
before later place = sum_by (λ (b : Bound). if nat_lt b.order place then size_at later b else 0)

-- whether a state comes after the first
abbrev pub is_later : ℕ → Bool
is_later zero = false
is_later (suc s) = true

-- how many variables the states before one have
abbrev pub earlier : List Bound → ℕ → ℕ
earlier bs zero = 0
earlier bs (suc s) = earlier bs s + together (is_later s) bs

-- The rows of the table stand state by state, and at each state relation by relation in their order.
-- The number of a variable is one more than how many stand before it
abbrev pub first_at : List Bound → Bound → ℕ → ℕ
first_at bs b s = 1 + earlier bs s + before (is_later s) b.order bs

-- a relation that is the same in all states has the variables of the first state at each
abbrev pub first_variable : List Bound → Bound → ℕ → ℕ
first_variable bs b s = first_at bs b (if b.fixed then 0 else s)

-- the variable that says that a relation has at a state the tuple at a place of its upper bound
abbrev pub variable_of : List Bound → Bound → ℕ → ℕ → ℕ
variable_of bs b s place = first_variable bs b s + place

-- the variable that says that the loop begins at a state; these come after all others
abbrev pub loop_variable : Bounds → ℕ → ℕ
loop_variable bounds s = 1 + earlier bounds.relations bounds.states + s

-- how many variables there are: a lasso of one state has no choice of a loop
abbrev pub variables : Bounds → ℕ
variables bounds = earlier bounds.relations bounds.states + (if nat_lt 1 bounds.states then bounds.states else 0)

-- there are states, and each relation has a place of its own in the order
pub record IsTable (bounds : Bounds) : Type 0 where
  pub some : 0 < bounds.states
  pub placed : (r : ℕ) (b : Bound) → slice_get bounds.relations r ≡ Some b → b.order < length bounds.relations
  pub apart : (r q : ℕ) (b c : Bound) → slice_get bounds.relations r ≡ Some b → slice_get bounds.relations q ≡ Some c → b.order ≡ c.order → r ≡ q

-- a row of the table: a state, a relation and a place of its upper bound; a relation that is the same
-- in all states has rows at the first state alone
pub record IsRow (bounds : Bounds) (s r place : ℕ) (b : Bound) : Type 0 where
  pub relation : slice_get bounds.relations r ≡ Some b
  pub state : s < bounds.states
  pub place_in : place < length b.upper.tuples
  pub own : b.fixed ≡ true → s ≡ 0

-- the order of rows: by their states, then by their relations' order, then by their places
abbrev pub StandsBefore : ℕ → ℕ → ℕ → ℕ → ℕ → ℕ → Type 0
StandsBefore s z order other place spot = (s < z) ⊎ ((s ≡ z) × ((order < other) ⊎ ((order ≡ other) × (place < spot))))

-- the rows' numbers rise in this order, from 1 to as many as there are
pub record AreInOrder (bounds : Bounds) : Type 0 where
  pub rise : (s z r q place spot : ℕ) (b c : Bound) → IsRow bounds s r place b → IsRow bounds z q spot c → StandsBefore s z b.order c.order place spot → variable_of bounds.relations b s place < variable_of bounds.relations c z spot
  pub within : (s r place : ℕ) (b : Bound) → IsRow bounds s r place b → (1 ≤ variable_of bounds.relations b s place) × (variable_of bounds.relations b s place ≤ earlier bounds.relations bounds.states)

abbrev pub RowsInOrder : Type 0
RowsInOrder = (bounds : Bounds) → AreInOrder bounds

-- whether a relation is the same in all states: where it isn't `var`
abbrev pub is_fixed : Bool → Bool
is_fixed true = false
is_fixed false = true

abbrev pub are_fixed : Model → List Bool
are_fixed model = map (λ (d : Sig). is_fixed d.is_var) model.sigs ++ map (λ (f : Field). is_fixed f.is_var) model.fields

-- ---- the numbers of the variables as they are kept

-- the first variable of a relation at a state
abbrev pub cell_at : Cells → ℕ → ℕ
cell_at c zero = c.first
cell_at c (suc s) = c.next + s * c.stride

-- they are those of the table
pub record IsLayout (bounds : Bounds) (kept : Layout) : Type 0 where
  pub cells : (r : ℕ) (b : Bound) → slice_get bounds.relations r ≡ Some b → (c : Cells) × (slice_get kept.relations.items r ≡ Some c) × ((s : ℕ) → s < bounds.states → (cell_at c s < 2 ^ 64) × (cell_at c s ≡ first_variable bounds.relations b s))
  pub loops : kept.loops ≡ loop_variable bounds 0
  pub count : kept.variables ≡ variables bounds

-- the same, of bounds that have a table
abbrev pub IsLaidOut : Bounds → Layout → Type 0
IsLaidOut bounds kept = IsTable bounds → IsLayout bounds kept

-- the bounds of these relations over so many states
abbrev pub bounds_over : List Bound → ℕ → Bounds
bounds_over relations states = record { relations = relations; states = states }

-- ---- the lasso of an assignment

-- the value of a variable: they are numbered from 1, and one without a value is false
abbrev pub truth : List Bool → ℕ → Bool
truth values zero = false
truth values (suc v) = slice_index_or values v false

-- an item before others, if it is to stay
abbrev pub keep : {X : Type 0} → Bool → X → List X → List X
keep true x xs = x ∷ xs
keep false x xs = xs

-- the items whose places pass, where the first one has this place
abbrev pub chosen : {X : Type 0} → (ℕ → Bool) → ℕ → List X → List X
chosen passes place [] = []
chosen passes place (x ∷ xs) = keep (passes place) x (chosen passes (suc place) xs)

-- at a state a relation has just those tuples of its upper bound whose variables are true
abbrev pub decoded_set : List Bound → List Bool → ℕ → Bound → TupleList
decoded_set bs values s b = record { arity = b.upper.arity; tuples = chosen (λ place. truth values (variable_of bs b s place)) 0 b.upper.tuples }

abbrev pub decoded_state : List Bound → List Bool → ℕ → List TupleList
decoded_state bs values s = map (decoded_set bs values s) bs

-- the least number below n that passes, or else another
abbrev pub least : (ℕ → Bool) → ℕ → ℕ → ℕ
least passes zero other = other
least passes (suc n) other = least passes n (if passes n then n else other)

-- the loop begins at the first state whose loop variable is true, or at the first state
abbrev pub decoded : Bounds → List Bool → LassoValue
decoded bounds values = record {
  states = map (decoded_state bounds.relations values) (range_with_len 0 bounds.states);
  loop_start = least (λ s. truth values (loop_variable bounds s)) bounds.states 0;
}
