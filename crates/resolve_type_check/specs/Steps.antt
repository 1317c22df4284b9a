-- One step up the sigs, and what two rows make, by cases.
use Rattle.std.specs.Prelude.{ℕ, if◌then◌else◌, List, [], ◌∷◌, ◌++◌, length, Option, Some, None, slice_get}
use Rattle.core_tree.specs.declared.model.Sig.{Sig}
use Rattle.core_tree.specs.declared.model.SigKind.{SigKind}
use Rattle.core_tree.specs.declared.model.Column.{Column}
use Rattle.core_tree.specs.declared.model.Column.TheVariants.{Sig as SigColumn}
use Rattle.core_tree.specs.Types.{TypeRow, TypeRows, by_parent, by_sig, standing, is_under, option_rows, row_join, row_meet, first_meets, last_meets}
use Rattle.resolve_type_check.specs.declared.pairs.Way.{Way}
use Rattle.resolve_type_check.specs.declared.pairs.Way.TheVariants.{Product, Join, Meet, First, Last}

-- the sig that one extends
abbrev pub parent_of : SigKind → Option ℕ
parent_of kind = by_parent None (λ p. Some p) kind

abbrev pub parent_at : List Sig → ℕ → Option ℕ
parent_at sigs s = by_sig None (λ d. parent_of d.kind) (slice_get sigs s)

-- the sig that a `var` sig extends
abbrev pub standing_parent : List Sig → ℕ → Option ℕ
standing_parent sigs s = by_sig None (λ d. if d.is_var then parent_of d.kind else None) (slice_get sigs s)

abbrev pub meet_sigs : List Sig → ℕ → ℕ → Option Column
meet_sigs sigs a b = if is_under sigs (length sigs) a b then Some (SigColumn a) else if is_under sigs (length sigs) b a then Some (SigColumn b) else None

abbrev pub standing_rows : List Sig → ℕ → TypeRows
standing_rows sigs s = (SigColumn (standing sigs (length sigs) s) ∷ []) ∷ []

abbrev pub itself : TypeRow → TypeRow
itself r = r

-- what two rows make
abbrev pub rows_by : List Sig → Way → TypeRow → TypeRow → TypeRows
rows_by sigs Product r q = (r ++ q) ∷ []
rows_by sigs Join r q = row_join sigs r q
rows_by sigs Meet r q = option_rows (λ x. x) (row_meet sigs r q)
rows_by sigs First r q = first_meets sigs r q
rows_by sigs Last r q = last_meets sigs r q
