-- Matrices as sets of tuples, in the words of the language's meaning.
use Rattle.std.specs.Prelude.{◌≡◌, ◌↔◌, ◌≤◌, ◌+◌, ◌-◌, ◌^◌, ℕ, Bool, true, List, [], ◌∷◌}
use Rattle.gate_trait.specs.declared.node.Node.{Node}
use Rattle.core_tree.specs.declared.operators.RelationOp.{RelationOp}
use Rattle.core_tree.specs.declared.operators.RelationOp.TheVariants.{Union, Difference, Intersection, Join, Override, LeftRestrict, RightRestrict}
use Rattle.core_meaning.specs.Operators.{Tuples}
use Rattle.core_tuples.specs.declared.universe.Universe.{Universe}
use Rattle.gate_matrix.specs.Matrices.{MatrixEntries, truth}

-- the set that a matrix means where the nodes have these values
abbrev pub set_of : (Node → Bool) → MatrixEntries → Tuples
set_of value m t = truth value m t ≡ true

-- the matrix means just this set
abbrev pub MeansSet : (Node → Bool) → MatrixEntries → Tuples → Type 0
MeansSet value m A = (t : List ℕ) → (truth value m t ≡ true) ↔ A t

-- the numbers of columns of two operands that an operator takes
abbrev pub FitTogether : RelationOp → ℕ → ℕ → Type 0
FitTogether Union m n = m ≡ n
FitTogether Difference m n = m ≡ n
FitTogether Intersection m n = m ≡ n
FitTogether Join m n = (3 ≤ m + n) × (m + n ≤ 11)
FitTogether Override m n = m ≡ n
FitTogether LeftRestrict m n = m ≡ 1
FitTogether RightRestrict m n = n ≡ 1

-- the number of columns of what it gives
abbrev pub columns_of : RelationOp → ℕ → ℕ → ℕ
columns_of Union m n = m
columns_of Difference m n = m
columns_of Intersection m n = m
columns_of Join m n = m + n - 2
columns_of Override m n = m
columns_of LeftRestrict m n = n
columns_of RightRestrict m n = m

-- a universe within the limits: 1 to 12 bits, and at most 16,384 atoms and integers together
pub record IsUniverse (u : Universe) : Type 0 where
  pub least : 1 ≤ u.bits
  pub most : u.bits ≤ 12
  pub numbers : u.atoms + 2 ^ u.bits ≤ 16384

-- the pairs of what is in a set with itself
abbrev pub pairs_with_itself : Tuples → Tuples
pairs_with_itself A t = (a : ℕ) × A (a ∷ []) × (t ≡ a ∷ a ∷ [])

-- the pairs of a set, turned round
abbrev pub turned : Tuples → Tuples
turned A t = (x y : ℕ) × A (y ∷ x ∷ []) × (t ≡ x ∷ y ∷ [])
