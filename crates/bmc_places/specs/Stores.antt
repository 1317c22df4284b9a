-- What becomes of the sets and integers that there were.
use Rattle.std.specs.Prelude.{◌≡◌, ℕ, List, slice_get, Some}
use Rattle.gate_trait.specs.declared.node.Node.{Node}
use Rattle.gate_matrix.specs.Matrices.{MatrixEntries}
use Rattle.bmc_stack.specs.declared.store.Store.{Store}

-- all sets and integers that there were are there
pub record Extends (old new : Store) : Type 0 where
  pub matrices : (k : ℕ) (m : MatrixEntries) → slice_get old.matrices.items k ≡ Some m → slice_get new.matrices.items k ≡ Some m
  pub integers : (k : ℕ) (b : List Node) → slice_get old.integers.items k ≡ Some b → slice_get new.integers.items k ≡ Some b

-- the sets and integers are as before
pub record Stays (old new : Store) : Type 0 where
  pub matrices : new.matrices.items ≡ old.matrices.items
  pub integers : new.integers.items ≡ old.integers.items
