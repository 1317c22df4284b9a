-- Types that are closed under joins.
use Rattle.std.specs.Prelude.{ℕ, suc, ◌≤◌, List, length}
use Rattle.core_tree.specs.declared.model.Sig.{Sig}
use Rattle.core_tree.specs.declared.operators.UnaryRelation.{UnaryRelation}
use Rattle.core_tree.specs.Types.{TypeRows, closed_rows, unary_rows}
use Rattle.resolve_type_check.specs.Same.{Within, SameRows, IsEachOnce}

-- the rows of all walks over rows: those of so many steps, with which nothing new comes any more
pub record AreWalks (sigs : List Sig) (base walks : TypeRows) : Type 0 where
  pub steps : ℕ
  pub few : steps ≤ length base
  pub made : SameRows walks (closed_rows sigs steps base)
  pub still : Within (closed_rows sigs (suc steps) base) (closed_rows sigs steps base)

-- the rows of all walks over the same rows, each once
pub record IsClosed (sigs : List Sig) (rows walks : TypeRows) : Type 0 where
  pub base : TypeRows
  pub once : IsEachOnce rows base
  pub ended : AreWalks sigs base walks

-- what an operator makes of a type that has the same rows
abbrev pub Turns : List Sig → UnaryRelation → TypeRows → TypeRows → Type 0
Turns sigs op rows made = (a : TypeRows) → SameRows rows a → SameRows made (unary_rows sigs op a)
