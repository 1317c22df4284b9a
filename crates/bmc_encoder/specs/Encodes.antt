-- What the roots of a target say of an assignment of the table's variables.
use Rattle.std.specs.Prelude.{◌≡◌, ◌↔◌, ◌+◌, ℕ, Bool, true, List, Some, slice_get}
use Rattle.gate_trait.specs.declared.node.Node.{Node}
use Rattle.core_meaning.specs.declared.scopes.Scopes.{Scopes}
use Rattle.core_meaning.specs.Sequence.{LassoValue}
use Rattle.core_meaning.specs.Kept.{KeepsNumbers}
use Rattle.bound_uppers.specs.declared.places.Layout.{Layout}
use Rattle.bound_uppers.specs.declared.table.Bounds.{Bounds}
use Rattle.core_tree.specs.declared.tree.Formula.{Formula}
use Rattle.bmc_leaves.specs.Table.{Decodes}
use Rattle.bmc_encoder.specs.Firsts.{SaysRoot}

-- `sure` is true just of the assignments of the table's variables that stand for a lasso; the first root where that lasso keeps
-- the numbers of the scopes; and the others, in order, where the formulas hold
pub record IsEncoded (bounds : Bounds) (scopes : Scopes) (formulas : List Formula) (table : Layout) (value : (ℕ → Bool) → Node → Bool) (sure : Node) (roots : List Node) : Type 0 where
  pub lassos : (x : ℕ → Bool) → (value x sure ≡ true) ↔ ((lasso : LassoValue) × Decodes bounds table x lasso)
  pub numbers : (n : Node) → slice_get roots 0 ≡ Some n → (x : ℕ → Bool) (lasso : LassoValue) → Decodes bounds table x lasso → (value x n ≡ true) ↔ KeepsNumbers scopes lasso
  pub holds : (k : ℕ) (f : Formula) (n : Node) → slice_get formulas k ≡ Some f → slice_get roots (k + 1) ≡ Some n → SaysRoot value bounds table scopes f n
