-- Sets that are gathered from tuples, each with a row that says where it is.
use Rattle.std.specs.Prelude.{◌≡◌, ◌↔◌, ◌⊎◌, ◌<◌, ℕ, Bool, true, List, [], ◌∷◌, ◌++◌, All, Contains, slice_get, Some}
use Rattle.gate_trait.specs.declared.node.Node.{Node}
use Rattle.gate_trait.specs.Built.{AllIn}
use Rattle.gate_matrix.specs.Matrices.{MatrixEntries, truth}
use Rattle.gate_temporal.specs.Rows.{row_value}
use Rattle.bmc_places.specs.declared.gathering.Choice.{Choice}

-- the nodes of all rows have the property
abbrev pub AllRows : (Node → Type 0) → List Choice → Type 0
AllRows belongs choices = All (λ c. AllIn belongs c.row) choices

-- some choice of this tuple has a true node at the place
abbrev pub IsFound : (Node → Bool) → List Choice → ℕ → List ℕ → Type 0
IsFound value choices i t = (c : Choice) × Contains choices c × (c.tuple ≡ t) × (row_value value c.row i ≡ true)

-- a set of number k has the tuples that are found at a place
abbrev pub GathersAt : ((ℕ → Bool) → Node → Bool) → ((ℕ → Bool) → Node → Bool) → List MatrixEntries → List Choice → ℕ → ℕ → Type 0
GathersAt old new matrices choices i k = (m : MatrixEntries) × (slice_get matrices k ≡ Some m) × ((x : ℕ → Bool) (t : List ℕ) → (truth (new x) m t ≡ true) ↔ IsFound (old x) choices i t)

-- all rows have the same node at two places
abbrev pub AreLike : List Choice → ℕ → ℕ → Type 0
AreLike choices i j = All (λ c. slice_get c.row i ≡ slice_get c.row j) choices

-- a number is added: that of an earlier place that is like this one, or that of a new set
abbrev pub AddsGathered : ((ℕ → Bool) → Node → Bool) → ((ℕ → Bool) → Node → Bool) → List MatrixEntries → List Choice → ℕ → List ℕ → List ℕ → Type 0
AddsGathered old new after choices place numbers more =
    (k : ℕ) × (more ≡ numbers ++ k ∷ []) × (((j : ℕ) × (j < place) × ((n : ℕ) → slice_get numbers j ≡ Some n → k ≡ n) × AreLike choices j place) ⊎ GathersAt old new after choices place k)

-- at each of so many places stands the set of the tuples that are found there
abbrev pub AreGathered : ((ℕ → Bool) → Node → Bool) → ((ℕ → Bool) → Node → Bool) → List MatrixEntries → List Choice → ℕ → List ℕ → Type 0
AreGathered old new matrices choices count numbers = (i : ℕ) → i < count → (k : ℕ) × (slice_get numbers i ≡ Some k) × GathersAt old new matrices choices i k
