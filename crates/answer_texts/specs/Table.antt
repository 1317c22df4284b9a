-- The rows that are written before clauses: what each variable stands for.
use Rattle.std.specs.Prelude.{◌≡◌, ℕ, zero, suc, ◌+◌, false, ◌&&◌, nat_lt, if◌then◌else◌, List, [], ◌∷◌, ◌++◌, All, flat_map, codes, decimal, Option, Some, None, slice_get}
use Rattle.sat_dimacs.specs.Text.{has_feed}
use Rattle.answer_trace.specs.Text.{tuple_text}
use Rattle.answer_trace.specs.declared.label.Labels.{Labels}
use Rattle.answer_trace.specs.declared.label.RelationLabel.{RelationLabel}
use Rattle.bound_uppers.specs.declared.table.Bound.{Bound}
use Rattle.bound_uppers.specs.declared.table.Bounds.{Bounds}
use Rattle.bound_uppers.specs.Table.{IsTable, first_variable, loop_variable}

-- no row of a table has a line feed, so each is one line
abbrev pub AreLines : List (List ℕ) → Type 0
AreLines table = All (λ (row : List ℕ). has_feed row ≡ false) table

-- a text as a row; one with a line feed, which no label of a lasso has, is left empty
abbrev pub one_line : List ℕ → List ℕ
one_line text = if has_feed text then [] else text

-- the row of the variable that says that a relation has a tuple at a state
abbrev pub tuple_row : List (List ℕ) → List ℕ → ℕ → ℕ → List ℕ → List ℕ
tuple_row atoms label number state tuple =
    one_line (codes "var " ++ decimal number ++ codes " " ++ label ++ codes " state " ++ decimal state ++ codes " " ++ tuple_text atoms tuple)

-- those of tuples in order, whose variables follow one another from this one on
abbrev pub tuple_rows : List (List ℕ) → List ℕ → ℕ → ℕ → List (List ℕ) → List (List ℕ)
tuple_rows atoms label number state [] = []
tuple_rows atoms label number state (tuple ∷ tuples) = tuple_row atoms label number state tuple ∷ tuple_rows atoms label (number + 1) state tuples

-- those of a relation at a state, one for each tuple that it may have; a relation that is the same in all states has rows at the
-- first alone
abbrev pub bound_rows : List (List ℕ) → List ℕ → ℕ → ℕ → Bound → List (List ℕ)
bound_rows atoms label number state bound = if bound.fixed && nat_lt 0 state then [] else tuple_rows atoms label number state bound.upper.tuples

-- a relation of the table, where its first variable at a state is given by its place, its bound and the state
abbrev pub place_rows : (ℕ → Bound → ℕ → ℕ) → List (List ℕ) → RelationLabel → ℕ → Option Bound → List (List ℕ)
place_rows first atoms relation state None = []
place_rows first atoms relation state (Some bound) = bound_rows atoms relation.label (first relation.place bound state) state bound

abbrev pub relation_rows : (ℕ → Bound → ℕ → ℕ) → List (List ℕ) → Bounds → ℕ → RelationLabel → List (List ℕ)
relation_rows first atoms bounds state relation = place_rows first atoms relation state (slice_get bounds.relations relation.place)

-- those of the first so many states
abbrev pub rows_before : (ℕ → Bound → ℕ → ℕ) → Labels → Bounds → ℕ → List (List ℕ)
rows_before first labels bounds zero = []
rows_before first labels bounds (suc state) = rows_before first labels bounds state ++ flat_map (relation_rows first labels.atoms bounds state) labels.relations

-- the row of the variable that says that the loop begins at a state
abbrev pub loop_row : ℕ → ℕ → List ℕ
loop_row number state = one_line (codes "var " ++ decimal number ++ codes " loop " ++ decimal state)

-- those of the first so many states, whose variables follow one another from this one on
abbrev pub loop_rows : ℕ → ℕ → List (List ℕ)
loop_rows number zero = []
loop_rows number (suc state) = loop_rows number state ++ loop_row (number + state) state ∷ []

-- with one state there is no choice of a loop
abbrev pub loops_after : ℕ → ℕ → List (List ℕ)
loops_after number states = if nat_lt 1 states then loop_rows number states else []

abbrev pub rows_by : (ℕ → Bound → ℕ → ℕ) → ℕ → Labels → Bounds → List (List ℕ)
rows_by first loops labels bounds = rows_before first labels bounds bounds.states ++ loops_after loops bounds.states

-- the first variable of a relation at a state
abbrev pub table_first : Bounds → ℕ → Bound → ℕ → ℕ
table_first bounds = λ place bound state. first_variable bounds.relations bound state

-- the rows of a table: state by state, and at each state relation by relation in the labels' order, a row for each tuple that
-- the relation may have, with the number of the variable that stands for it; then a row for each loop index
abbrev pub table_rows : Labels → Bounds → List (List ℕ)
table_rows labels bounds = rows_by (table_first bounds) (loop_variable bounds 0) labels bounds

-- a table is written of labels and bounds: each row is one line, and they are the stated ones
pub record IsTableOf (labels : Labels) (bounds : Bounds) (table : List (List ℕ)) : Type 0 where
  pub lines : AreLines table
  pub rows : IsTable bounds → table ≡ table_rows labels bounds
