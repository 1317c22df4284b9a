-- Override and restriction.
use Rattle.std.specs.Prelude.{◌≡◌, ◌⊎◌, ◌-◌, ℕ, Bool, true, not, List, [], ◌∷◌, ◌++◌, length, slice_index}
use Rattle.gate_trait.specs.declared.node.Node.{Node}
use Rattle.gate_matrix.specs.Matrices.{MatrixEntries, truth}
use Rattle.gate_closure.specs.declared.filters.Side.{Side}
use Rattle.gate_closure.specs.declared.filters.Side.TheVariants.{First, Last}
use Rattle.gate_closure.specs.declared.filters.Kept.{Kept}
use Rattle.gate_closure.specs.declared.filters.Kept.TheVariants.{Inside, Outside}

-- the tuple is in the second set, or it is in the first and no tuple of the second begins with its first atom
abbrev pub IsOverridden : (Node → Bool) → MatrixEntries → MatrixEntries → List ℕ → Type 0
IsOverridden value a b t = (truth value b t ≡ true) ⊎ ((truth value a t ≡ true) × ((x : ℕ) (s u : List ℕ) → t ≡ x ∷ s → truth value b (x ∷ u) ≡ true → ⊥))

-- the tuple is in the second set, and its first atom is in the first
abbrev pub IsLeftRestricted : (Node → Bool) → MatrixEntries → MatrixEntries → List ℕ → Type 0
IsLeftRestricted value s a t = (truth value a t ≡ true) × ((x : ℕ) × (u : List ℕ) × (t ≡ x ∷ u) × (truth value s (x ∷ []) ≡ true))

-- the tuple is in the first set, and its last atom is in the second
abbrev pub IsRightRestricted : (Node → Bool) → MatrixEntries → MatrixEntries → List ℕ → Type 0
IsRightRestricted value a s t = (truth value a t ≡ true) × ((u : List ℕ) × (x : ℕ) × (t ≡ u ++ x ∷ []) × (truth value s (x ∷ []) ≡ true))

-- the number of a tuple that is asked
abbrev pub atom_at : Side → List ℕ → ℕ
atom_at First t = slice_index t 0
atom_at Last t = slice_index t (length t - 1)

-- whether a tuple is kept whose atom is or isn't in the set
abbrev pub counts : Kept → Bool → Bool
counts Inside b = b
counts Outside b = not b

-- the tuple is the first atom of a tuple of the set
pub record IsFirst (value : Node → Bool) (a : MatrixEntries) (t : List ℕ) : Type 0 where
  pub x : ℕ
  pub u : List ℕ
  pub is : t ≡ x ∷ []
  pub there : truth value a (x ∷ u) ≡ true
