-- One level of the walk up from `in` sigs to their parents.
use Rattle.std.specs.Prelude.{ℕ, List, [], ◌∷◌}
use Rattle.std.specs.List.{flat_map, slice_get}
use Rattle.core_tree.specs.declared.model.Sig.{Sig}
use Rattle.core_tree.specs.declared.model.SigKind.{SigKind}
use Rattle.core_tree.specs.declared.model.SigKind.TheVariants.{Top, Extends, Subset}
use Rattle.core_tree.specs.declared.model.Column.{Column}
use Rattle.core_tree.specs.declared.model.Column.TheVariants.{Sig as SigColumn, Int as IntColumn}
use Rattle.core_tree.specs.Types.{TypeRows, by_sig}
use Rattle.resolve_type_check.specs.Steps.{standing_rows}

-- the row of `Int`, where a column is that
abbrev pub int_row : Column → TypeRows
int_row IntColumn = (IntColumn ∷ []) ∷ []
int_row (SigColumn p) = []

-- the sig that a column is
abbrev pub sig_of : Column → List ℕ
sig_of IntColumn = []
sig_of (SigColumn p) = p ∷ []

abbrev pub kind_here : TypeRows → SigKind → TypeRows
kind_here itself Top = itself
kind_here itself (Extends p) = itself
kind_here itself (Subset ps) = flat_map int_row ps

-- the rows that a sig has by itself, and those of `Int` among its parents
abbrev pub rows_here : List Sig → ℕ → TypeRows
rows_here sigs s = by_sig [] (λ d. kind_here (standing_rows sigs s) d.kind) (slice_get sigs s)

abbrev pub kind_above : SigKind → List ℕ
kind_above Top = []
kind_above (Extends p) = []
kind_above (Subset ps) = flat_map sig_of ps

-- the sigs whose rows it has besides
abbrev pub sigs_above : List Sig → ℕ → List ℕ
sigs_above sigs s = by_sig [] (λ d. kind_above d.kind) (slice_get sigs s)
