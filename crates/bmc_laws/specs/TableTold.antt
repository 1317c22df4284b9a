-- Lassos that assignments of a table's variables tell.
use Rattle.std.specs.Prelude.{◌≡◌, ◌<◌, ◌≤◌, ℕ, Bool, List}
use Rattle.core_meaning.specs.Sequence.{LassoValue}
use Rattle.bound_uppers.specs.declared.places.Layout.{Layout}
use Rattle.bound_uppers.specs.declared.table.Bounds.{Bounds}
use Rattle.bound_uppers.specs.Table.{IsTable, IsLayout}
use Rattle.bound_uppers.specs.Candidates.{IsCandidate, Agrees, HasOneLoop}
use Rattle.sat_dimacs.specs.Literal.{value_of}
use Rattle.bmc_leaves.specs.Table.{Decodes}

-- each lasso within the bounds, of as many states as they have, is one for which some values of the table's variables stand
abbrev pub CandidatesAreTold : Type 0
CandidatesAreTold = (bounds : Bounds) (table : Layout) (lasso : LassoValue) → IsTable bounds → IsLayout bounds table → IsCandidate bounds lasso → (x : ℕ → Bool) × Decodes bounds table x lasso

-- values that stand for a lasso choose one loop
abbrev pub StandingHaveOneLoop : Type 0
StandingHaveOneLoop = (bounds : Bounds) (table : Layout) (values : List Bool) (lasso : LassoValue) → IsLayout bounds table → Decodes bounds table (value_of values) lasso → HasOneLoop bounds values

-- a lasso within the bounds of which values tell is one for which they stand
abbrev pub AgreeingAreDecoded : Type 0
AgreeingAreDecoded = (bounds : Bounds) (table : Layout) (values : List Bool) (lasso : LassoValue) → IsTable bounds → IsLayout bounds table → IsCandidate bounds lasso → Agrees bounds values lasso → Decodes bounds table (value_of values) lasso

-- values that are the same on the variables of the table stand for the same lassos
abbrev pub AlikeStand : Type 0
AlikeStand =
    (bounds : Bounds) (table : Layout) (v x : ℕ → Bool) (lasso : LassoValue) → IsTable bounds → IsLayout bounds table → ((m : ℕ) → 0 < m → m ≤ table.variables → v m ≡ x m) →
    Decodes bounds table x lasso → Decodes bounds table v lasso
