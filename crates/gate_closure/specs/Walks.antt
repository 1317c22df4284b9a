-- Walks along the pairs of a relation.
use Rattle.std.specs.Prelude.{◌≡◌, ◌≤◌, ◌<◌, ◌+◌, ℕ, Bool, true, All, List, [], ◌∷◌, length}
use Rattle.gate_trait.specs.declared.node.Node.{Node}
use Rattle.gate_matrix.specs.Matrices.{MatrixEntries, truth}

-- a step from x to y
abbrev pub IsStep : (Node → Bool) → MatrixEntries → ℕ → ℕ → Type 0
IsStep value a x y = truth value a (x ∷ y ∷ []) ≡ true

-- steps lead from x over the inner atoms, in turn, to y
abbrev pub IsWalk : (Node → Bool) → MatrixEntries → ℕ → List ℕ → ℕ → Type 0
IsWalk value a x [] y = IsStep value a x y
IsWalk value a x (z ∷ inner) y = IsStep value a x z × IsWalk value a z inner y

-- the tuple is a pair, and a finite walk of at least one step leads from its first atom to its second
pub record IsReached (value : Node → Bool) (a : MatrixEntries) (t : List ℕ) : Type 0 where
  pub x : ℕ
  pub y : ℕ
  pub inner : List ℕ
  pub is : t ≡ x ∷ y ∷ []
  pub walk : IsWalk value a x inner y

-- the same by a walk of at most so many steps
pub record IsReachedWithin (value : Node → Bool) (a : MatrixEntries) (steps : ℕ) (t : List ℕ) : Type 0 where
  pub x : ℕ
  pub y : ℕ
  pub inner : List ℕ
  pub is : t ≡ x ∷ y ∷ []
  pub walk : IsWalk value a x inner y
  pub short : length inner + 1 ≤ steps

-- the numbers in the tuples of a matrix are below the number of atoms
abbrev pub IsBelow : ℕ → MatrixEntries → Type 0
IsBelow atoms a = All (λ e. All (λ n. n < atoms) e.tuple) a.entries
