-- Expressions that are the union of columns.
use Rattle.std.specs.Prelude.{ℕ, List, [], ◌∷◌, ◌++◌}
use Rattle.core_tree.specs.declared.model.Column.{Column}
use Rattle.core_tree.specs.declared.model.Column.TheVariants.{Sig as SigColumn, Int as IntColumn}
use Rattle.core_tree.specs.declared.operators.RelationOp.TheVariants.{Union}
use Rattle.core_tree.specs.Trees.{Term, sig, int, empty, combine}

-- what a column holds
abbrev pub column_term : Column → Term
column_term (SigColumn s) = sig s
column_term IntColumn = int

-- a term is a union in which each column of a list stands
pub data IsUnion : List Column → Term → Type 0 where
  of_none : IsUnion [] empty
  of_one : (c : Column) → IsUnion (c ∷ []) (column_term c)
  of_both : (l r : List Column) (a b : Term) → IsUnion l a → IsUnion r b → IsUnion (l ++ r) (combine Union a b)
