-- Roots at the first places of the windows.
use Rattle.std.specs.Prelude.{◌≡◌, ◌↔◌, ℕ, Bool, List, Some, length, slice_get, IsTrue}
use Rattle.gate_trait.specs.declared.node.Node.{Node}
use Rattle.core_tree.specs.declared.tree.Formula.{Formula}
use Rattle.core_tree.specs.Trees.{claim_of}
use Rattle.core_meaning.specs.declared.scopes.Scopes.{Scopes}
use Rattle.core_meaning.specs.Sequence.{LassoValue}
use Rattle.core_meaning.specs.Kept.{world_of}
use Rattle.core_meaning.specs.Meaning.{no_names, Holds}
use Rattle.core_meaning.specs.Called.{no_bodies}
use Rattle.gate_temporal.specs.Rows.{row_value}
use Rattle.bound_uppers.specs.declared.places.Layout.{Layout}
use Rattle.bound_uppers.specs.declared.table.Bounds.{Bounds}
use Rattle.bmc_windows.specs.declared.frame.Stretch.{Stretch}
use Rattle.bmc_leaves.specs.Table.{Decodes}

-- the nodes at the first places
pub record AreFirsts (value : (ℕ → Bool) → Node → Bool) (windows : List Stretch) (all firsts : List Node) : Type 0 where
  pub long : length firsts ≡ length windows
  pub values : (x : ℕ → Bool) (loop : ℕ) (s : Stretch) → slice_get windows loop ≡ Some s → row_value (value x) firsts loop ≡ row_value (value x) all s.start

-- in each assignment that stands for a lasso, the node is true just where the formula holds at the lasso's
-- position 0
abbrev pub SaysRoot : ((ℕ → Bool) → Node → Bool) → Bounds → Layout → Scopes → Formula → Node → Type 0
SaysRoot value bounds table scopes f n =
    (x : ℕ → Bool) (lasso : LassoValue) → Decodes bounds table x lasso
    → IsTrue (value x n) ↔ Holds (world_of scopes lasso) no_bodies (claim_of f) no_names 0
