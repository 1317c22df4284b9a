-- The sets of expressions without parts.
use Rattle.std.specs.Prelude.{◌≡◌, ◌<◌, ℕ, Bool, List, length, slice_get, Some, Vec}
use Rattle.std.specs.declared.alloc.Global.{Global}
use Rattle.gate_trait.specs.declared.node.Node.{Node}
use Rattle.core_tree.specs.Trees.{Term}
use Rattle.gate_matrix.specs.Matrices.{MatrixEntries}
use Rattle.bmc_leaves.specs.Shown.{Atoms, under, AreRight}
use Rattle.bmc_leaves.specs.Relations.{reading_of}
use Rattle.bmc_walk.specs.declared.walk.Ground.{Ground}
use Rattle.bmc_walk.specs.Walked.{IsGround}

-- the value is what is kept under the number, and has places
abbrev pub HoldsLeaf : List (Vec ℕ Global) → ℕ → List ℕ → Type 0
HoldsLeaf kept number v = (n : Vec ℕ Global) × (slice_get kept number ≡ Some n) × (v ≡ n.items) × (0 < length v)

-- the sets are those of the expression, whatever names stand for
pub record KeptSets (ground : Ground) (e : Term) (numbers : List ℕ) : Type 0 where
  pub right : (value : (ℕ → Bool) → Node → Bool) (matrices : List MatrixEntries) (h : ℕ) → IsGround ground value matrices h → (atoms : Atoms) → AreRight (under (reading_of ground.setting h) atoms) value matrices e numbers
