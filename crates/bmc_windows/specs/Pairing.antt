-- Numbers at all places.
use Rattle.std.specs.Prelude.{◌≡◌, ℕ, List, [], ◌∷◌, ◌++◌, slice_get, Some}

-- each pair that stands at some place is in the list, and the row has its number at that place
abbrev pub ArePairs : List (ℕ × ℕ) → List ℕ → List ℕ → List ℕ → Type 0
ArePairs pairs row a b = (i m n : ℕ) → slice_get a i ≡ Some m → slice_get b i ≡ Some n → (k : ℕ) × (slice_get row i ≡ Some k) × (slice_get pairs k ≡ Some (m, n))

-- each number of the new row is the old row's at the place that is named
abbrev pub IsMoved : List ℕ → List ℕ → List ℕ → Type 0
IsMoved row from new = (i k n : ℕ) → slice_get from i ≡ Some k → slice_get row k ≡ Some n → slice_get new i ≡ Some n

-- the number of a pair is added to the row, and the pair to the list where it is new
pub record AddsPair (old new : List (ℕ × ℕ)) (before after : List ℕ) (pair : ℕ × ℕ) : Type 0 where
  pub kept : (k : ℕ) (p : ℕ × ℕ) → slice_get old k ≡ Some p → slice_get new k ≡ Some p
  pub number : (k : ℕ) × (after ≡ before ++ k ∷ []) × (slice_get new k ≡ Some pair)
