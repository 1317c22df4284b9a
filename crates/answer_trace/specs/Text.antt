-- The text of a trace.
use Rattle.std.specs.Prelude.{ℕ, zero, suc, List, [], ◌∷◌, ◌++◌, length, flat_map, codes, decimal, Option, Some, None, slice_get, slice_index_or}
use Rattle.core_tuples.specs.Sets.{TupleList}
use Rattle.core_meaning.specs.Sequence.{LassoValue}
use Rattle.answer_trace.specs.declared.label.Shown.{Shown}
use Rattle.answer_trace.specs.declared.label.Shown.TheVariants.{Line, Nothing, Just}
use Rattle.answer_trace.specs.declared.label.RelationLabel.{RelationLabel}
use Rattle.answer_trace.specs.declared.label.Labels.{Labels}

-- the text of a number of the universe
abbrev pub atom_text : List (List ℕ) → ℕ → List ℕ
atom_text atoms a = slice_index_or atoms a []

-- a tuple: its atoms joined by arrows
abbrev pub tuple_text : List (List ℕ) → List ℕ → List ℕ
tuple_text atoms [] = []
tuple_text atoms (a ∷ t) = atom_text atoms a ++ flat_map (λ b. codes "->" ++ atom_text atoms b) t

-- tuples: a blank before each, and a comma after each but the last
abbrev pub tuples_text : List (List ℕ) → List (List ℕ) → List ℕ
tuples_text atoms [] = []
tuples_text atoms (t ∷ ts) = codes " " ++ tuple_text atoms t ++ flat_map (λ u. codes ", " ++ tuple_text atoms u) ts

abbrev pub set_text : List (List ℕ) → Option TupleList → List ℕ
set_text atoms None = []
set_text atoms (Some set) = tuples_text atoms set.tuples

abbrev pub shown_text : Shown → List ℕ → List ℕ
shown_text Line text = text
shown_text Nothing text = []
shown_text (Just a) text = []

-- a relation's line: its label, what stands between, and its tuples
abbrev pub relation_text : List (List ℕ) → List TupleList → RelationLabel → List ℕ
relation_text atoms state r = shown_text r.shown (r.label ++ codes " =" ++ set_text atoms (slice_get state r.place) ++ codes "\n")

abbrev pub state_text : Labels → ℕ → List TupleList → List ℕ
state_text labels i state = codes "state " ++ decimal i ++ codes "\n" ++ flat_map (λ r. relation_text labels.atoms state r) labels.relations

abbrev pub nth_state_text : Labels → ℕ → Option (List TupleList) → List ℕ
nth_state_text labels i None = []
nth_state_text labels i (Some state) = state_text labels i state

-- the first so many states
abbrev pub states_text : Labels → List (List TupleList) → ℕ → List ℕ
states_text labels states zero = []
states_text labels states (suc i) = states_text labels states i ++ nth_state_text labels i (slice_get states i)

abbrev pub header_text : ℕ → ℕ → List ℕ
header_text count loop_start = codes "trace states " ++ decimal count ++ codes " loop " ++ decimal loop_start ++ codes "\n"

-- a lasso as a text
abbrev pub trace_text : Labels → LassoValue → List ℕ
trace_text labels lasso = header_text (length lasso.states) lasso.loop_start ++ states_text labels lasso.states (length lasso.states) ++ codes "end\n"
