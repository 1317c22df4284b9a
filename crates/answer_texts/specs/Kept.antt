-- The rows of a table by the numbers of its variables that are kept.
use Rattle.std.specs.Prelude.{ℕ, List, Option, Some, None, slice_get}
use Rattle.answer_trace.specs.declared.label.Labels.{Labels}
use Rattle.bound_uppers.specs.declared.places.Cells.{Cells}
use Rattle.bound_uppers.specs.declared.places.Layout.{Layout}
use Rattle.bound_uppers.specs.declared.table.Bound.{Bound}
use Rattle.bound_uppers.specs.declared.table.Bounds.{Bounds}
use Rattle.bound_uppers.specs.Table.{cell_at}
use Rattle.answer_texts.specs.Table.{rows_by}

-- the first variable at a state of the relation whose variables stand there, where it has some
abbrev pub first_in : Option Cells → ℕ → ℕ
first_in None state = 0
first_in (Some cells) state = cell_at cells state

abbrev pub kept_first : Layout → ℕ → Bound → ℕ → ℕ
kept_first layout = λ place bound state. first_in (slice_get layout.relations.items place) state

abbrev pub kept_rows : Layout → Labels → Bounds → List (List ℕ)
kept_rows layout labels bounds = rows_by (kept_first layout) layout.loops labels bounds
