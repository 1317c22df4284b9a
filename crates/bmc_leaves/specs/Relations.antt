-- The sets of relations at states and at places.
use Rattle.std.specs.Prelude.{◌≡◌, ◌⊎◌, ◌<◌, ℕ, Bool, List, [], ◌∷◌, Some, length, slice_get}
use Rattle.gate_trait.specs.declared.node.Node.{Node}
use Rattle.gate_matrix.specs.Matrices.{MatrixEntries}
use Rattle.gate_operators.specs.Sets.{MeansSet}
use Rattle.bound_uppers.specs.declared.places.Cells.{Cells}
use Rattle.bound_uppers.specs.declared.table.Bound.{Bound}
use Rattle.bmc_leaves.specs.declared.setting.Setting.{Setting}
use Rattle.bmc_leaves.specs.Table.{InTable}
use Rattle.core_meaning.specs.Sequence.{LassoValue}
use Rattle.core_meaning.specs.World.{World, InRelation, IsInteger, IsTop}
use Rattle.core_meaning.specs.Kept.{world_of}
use Rattle.core_meaning.specs.Operators.{Tuples}
use Rattle.bmc_windows.specs.declared.frame.Stretch.{Stretch}
use Rattle.bmc_leaves.specs.Shown.{Reading, HasPlace}
use Rattle.bmc_leaves.specs.Table.{Decodes}

-- how formulas are read in a setting
abbrev pub reading_of : Setting → ℕ → Reading
reading_of s depth = record { bounds = s.bounds.now; table = s.layout.now; scopes = s.scopes.now; universe = s.universe; frame = s.frame.now; depth = depth; atoms = [] }

-- the set of this number has the tuples of the relation at the state
abbrev pub AddsState : ((ℕ → Bool) → Node → Bool) → List MatrixEntries → Bound → Cells → ℕ → ℕ → Type 0
AddsState value matrices bound cells state k = (m : MatrixEntries) × (slice_get matrices k ≡ Some m) × ((x : ℕ → Bool) → MeansSet (value x) m (InTable x bound cells state))

-- at each of so many states stands such a set
abbrev pub AtStates : ((ℕ → Bool) → Node → Bool) → List MatrixEntries → Bound → Cells → ℕ → List ℕ → Type 0
AtStates value matrices bound cells states numbers = (state : ℕ) → state < states → (k : ℕ) × (slice_get numbers state ≡ Some k) × AddsState value matrices bound cells state k

-- at each place that shows a state stands such a set
abbrev pub AtShown : ((ℕ → Bool) → Node → Bool) → List MatrixEntries → Bound → Cells → ℕ → List ℕ → List ℕ → Type 0
AtShown value matrices bound cells states shown numbers = (i state : ℕ) → slice_get shown i ≡ Some state → state < states → (k : ℕ) × (slice_get numbers i ≡ Some k) × AddsState value matrices bound cells state k

-- the relation has tuples of one number alone, in every lasso that is shown
abbrev pub HasOneColumn : Reading → ℕ → Type 0
HasOneColumn r relation = (loop k : ℕ) (s : Stretch) → HasPlace r.frame loop s k → (x : ℕ → Bool) (lasso : LassoValue) → Decodes r.bounds r.table x lasso → lasso.loop_start ≡ loop → (t : List ℕ) → InRelation (world_of r.scopes lasso) relation k t → length t ≡ 1

-- an integer, or an atom of a top-level sig whose number is below this
abbrev pub InUniverseBelow : World → ℕ → ℕ → ℕ → Type 0
InUniverseBelow w n i a = ((s : ℕ) × (s < n) × IsTop w s × InRelation w s i (a ∷ [])) ⊎ IsInteger w a

abbrev pub univ_below : World → ℕ → ℕ → Tuples
univ_below w n i t = (a : ℕ) × InUniverseBelow w n i a × (t ≡ a ∷ [])
