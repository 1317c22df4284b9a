-- The tuples that the sets of a row may have, and at which places each is in the set.
use Rattle.std.specs.Prelude.{◌≡◌, ◌<◌, ◌+◌, ◌*◌, ℕ, Bool, List, Contains, length, slice_get, Some}
use Rattle.gate_trait.specs.declared.node.Node.{Node}
use Rattle.gate_matrix.specs.Matrices.{MatrixEntries, truth, tuples_of}
use Rattle.gate_temporal.specs.Rows.{row_value}
use Rattle.bmc_stack.specs.Sets.{StandsAt}

-- the node has the value of the tuple in the set of this number, where there is one
abbrev pub SaysMember : ((ℕ → Bool) → Node → Bool) → List MatrixEntries → ℕ → List ℕ → Node → Type 0
SaysMember value matrices number t n = (m : MatrixEntries) → slice_get matrices number ≡ Some m → (x : ℕ → Bool) → value x n ≡ truth (value x) m t

-- all tuples of the sets of a row are in the list
abbrev pub HasMembers : List MatrixEntries → List ℕ → List (List ℕ) → Type 0
HasMembers matrices row tuples = (i : ℕ) (m : MatrixEntries) → StandsAt matrices row i m → (t : List ℕ) → Contains (tuples_of m.entries) t → Contains tuples t

-- the nodes say at which places each tuple is in the set of the row: those of the first tuple come first
pub record SayMembers (value : (ℕ → Bool) → Node → Bool) (matrices : List MatrixEntries) (row : List ℕ) (tuples : List (List ℕ)) (nodes : List Node) : Type 0 where
  pub long : length nodes ≡ length tuples * length row
  pub values : (n : ℕ) (t : List ℕ) (i : ℕ) (m : MatrixEntries) → slice_get tuples n ≡ Some t → StandsAt matrices row i m → (x : ℕ → Bool) → row_value (value x) nodes (n * length row + i) ≡ truth (value x) m t

-- a node for each place of the row
pub record SaysRow (value : (ℕ → Bool) → Node → Bool) (matrices : List MatrixEntries) (row : List ℕ) (t : List ℕ) (more : List Node) : Type 0 where
  pub long : length more ≡ length row
  pub values : (i number : ℕ) → slice_get row i ≡ Some number → (n : Node) × (slice_get more i ≡ Some n) × SaysMember value matrices number t n

-- the tuples that there were stay, and those of the set of this number are added
pub record AddsTuples (matrices : List MatrixEntries) (number : ℕ) (old new : List (List ℕ)) : Type 0 where
  pub kept : (t : List ℕ) → Contains old t → Contains new t
  pub added : (m : MatrixEntries) → slice_get matrices number ≡ Some m → (t : List ℕ) → Contains (tuples_of m.entries) t → Contains new t
