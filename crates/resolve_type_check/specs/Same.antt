-- Rows as sets: lists that have the same rows, in whatever order and however often.
use Rattle.std.specs.Prelude.{◌==◌, Bool, true, false, cond, ◌&&◌, [], ◌∷◌, ◌++◌, Contains}
use Rattle.std.specs.List.{list_any, IsDistinct}
use Rattle.core_tree.specs.declared.model.Column.{Column}
use Rattle.core_tree.specs.declared.model.Column.TheVariants.{Sig as SigColumn, Int as IntColumn}
use Rattle.core_tree.specs.Types.{TypeRow, TypeRows}

abbrev pub Within : TypeRows → TypeRows → Type 0
Within a b = (r : TypeRow) → Contains a r → Contains b r

-- the same rows, in whatever order and however often
pub record SameRows (a b : TypeRows) : Type 0 where
  pub to : Within a b
  pub back : Within b a

abbrev pub same_column : Column → Column → Bool
same_column IntColumn IntColumn = true
same_column IntColumn (SigColumn t) = false
same_column (SigColumn s) IntColumn = false
same_column (SigColumn s) (SigColumn t) = s == t

abbrev pub same_row : TypeRow → TypeRow → Bool
same_row [] [] = true
same_row [] (d ∷ b) = false
same_row (c ∷ a) [] = false
same_row (c ∷ a) (d ∷ b) = same_column c d && same_row a b

-- whether a row is among rows
abbrev pub has_row : TypeRows → TypeRow → Bool
has_row rows row = list_any (same_row row) rows

-- the rows, and a row behind them where it isn't among them
abbrev pub with_row : TypeRows → TypeRow → TypeRows
with_row rows row = cond (has_row rows row) rows (rows ++ row ∷ [])

-- the rows, and behind them each further one where it first stands
abbrev pub added : TypeRows → TypeRows → TypeRows
added rows [] = rows
added rows (row ∷ more) = added (with_row rows row) more

-- the rows, each once
pub record IsEachOnce (rows made : TypeRows) : Type 0 where
  pub same : SameRows made rows
  pub once : IsDistinct same_row made
