-- How the numbers of the table are reckoned.
use Rattle.std.specs.Prelude.{◌≡◌, ◌<◌, ◌^◌, ℕ, ◌+◌, Bool, true, false, List, length, slice_get, Some, map}
use Rattle.bound_uppers.specs.declared.table.Bound.{Bound}
use Rattle.bound_uppers.specs.declared.places.Cells.{Cells}
use Rattle.bound_uppers.specs.declared.places.Layout.{Layout}
use Rattle.bound_uppers.specs.declared.sums.Weight.{Weight}
use Rattle.bound_uppers.specs.Table.{size_at, together, before, cell_at, first_variable}

-- a relation's size, at its place in the order
abbrev pub weight_of : Bool → Bound → Weight
weight_of later b = record { place = b.order; size = size_at later b }

-- each place of the order is one of so many as there are relations
abbrev pub HasPlaces : List Bound → Type 0
HasPlaces bs = (r : ℕ) (b : Bound) → slice_get bs r ≡ Some b → b.order < length bs

abbrev pub cells_by : Bool → ℕ → ℕ → ℕ → Cells
cells_by true first next stride = record { first = first; next = first; stride = 0 }
cells_by false first next stride = record { first = first; next = next; stride = stride }

-- where the variables of a relation stand
abbrev pub cells_in : List Bound → Bound → Cells
cells_in bs b = cells_by b.fixed (1 + before false b.order bs) (1 + together false bs + before true b.order bs) (together true bs)

abbrev pub HasCells : List Bound → List Cells → Type 0
HasCells bs cells = cells ≡ map (cells_in bs) bs

-- what is kept of a state's variables is of the table
abbrev pub HasFirsts : List Bound → Layout → ℕ → Type 0
HasFirsts bs kept s = (r : ℕ) (b : Bound) → slice_get bs r ≡ Some b → (c : Cells) × (slice_get kept.relations.items r ≡ Some c) × (cell_at c s < 2 ^ 64) × (cell_at c s ≡ first_variable bs b s)
