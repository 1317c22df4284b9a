-- The children of each sig.
use Rattle.std.specs.Prelude.{◌≡◌, ℕ, ◌<◌, List, [], length, get_or}
use Rattle.core_tree.specs.declared.model.Sig.{Sig}
use Rattle.core_tree.specs.declared.model.Column.{Column}
use Rattle.core_tree.specs.declared.model.Column.TheVariants.{Sig as SigColumn, Int as IntColumn}
use Rattle.core_meaning.specs.Operators.{IsListOf}
use Rattle.core_meaning.specs.Declarations.{IsChild}

module _ (sigs : List Sig) where
  -- a child of sig p, and one with a number below n
  abbrev pub IsChildColumn : ℕ → Column → Type 0
  IsChildColumn p (SigColumn c) = IsChild sigs p c
  IsChildColumn p IntColumn = ⊥

  abbrev pub IsChildBelow : ℕ → ℕ → Column → Type 0
  IsChildBelow n p (SigColumn c) = IsChild sigs p c × (c < n)
  IsChildBelow n p IntColumn = ⊥

  -- a list for each sig has just its children, without repeats
  pub record HasChildren (lists : List (List Column)) : Type 0 where
    pub count : length lists ≡ length sigs
    pub each : (p : ℕ) → p < length sigs → IsListOf (IsChildColumn p) (get_or lists p [])

  pub record HasChildrenBelow (n : ℕ) (lists : List (List Column)) : Type 0 where
    pub count : length lists ≡ length sigs
    pub each : (p : ℕ) → p < length sigs → IsListOf (IsChildBelow n p) (get_or lists p [])
