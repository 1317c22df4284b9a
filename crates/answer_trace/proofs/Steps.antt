-- One step of each loop of the reader.
use Rattle.std.proofs.Common.{◌≡◌, ℕ, suc, ◌+◌, ◌-◌, ◌<◌, ◌≤◌, List, [], ◌∷◌, ◌++◌, length, drop, get_or, Option, Some, None, refl, sym, ap, ◌∙◌, arith}
use Rattle.std.specs.Option.{option_and_then}
use Rattle.std.proofs.lemmas.List.{drop_more, drop_all}
use Rattle.core_tuples.specs.Sets.{TupleList}
use Rattle.answer_trace.specs.declared.label.RelationLabel.{RelationLabel}
use Rattle.answer_trace.specs.declared.label.Labels.{Labels}
use Rattle.answer_trace.specs.Reading.{Way, go, further_atom, further_atoms, one_more, tuples_of, relation_way, relations_way, state_way, states_way}
use Rattle.answer_trace.specs.Reading.Way.{on, off}

-- ---- the columns of a tuple

abbrev next_column : List (List ℕ) → ℕ → List ℕ → Option (ℕ × List ℕ) → Option (List ℕ × List ℕ)
next_column atoms k tuple o = option_and_then (λ found. further_atoms atoms k (tuple ++ found.0 ∷ []) found.1) o

further_step : (atoms : List (List ℕ)) (k j : ℕ) (tuple text : List ℕ) → k ≡ suc j → further_atoms atoms k tuple text ≡ next_column atoms j tuple (further_atom atoms text)
further_step atoms k j tuple text e = ap (λ n. further_atoms atoms n tuple text) e

pub further_more : (atoms : List (List ℕ)) (columns i : ℕ) (tuple text : List ℕ) (n : ℕ) (next : List ℕ) → i < columns → Some (n, next) ≡ further_atom atoms text
    → further_atoms atoms (columns - i) tuple text ≡ further_atoms atoms (columns - (i + 1)) (tuple ++ n ∷ []) next
further_more atoms columns i tuple text n next lt e =
    further_step atoms (columns - i) (columns - (i + 1)) tuple text (omega arith) ∙ ap (next_column atoms (columns - (i + 1)) tuple) (sym e)

pub further_none : (atoms : List (List ℕ)) (columns i : ℕ) (tuple text : List ℕ) → i < columns → None ≡ further_atom atoms text → further_atoms atoms (columns - i) tuple text ≡ None
further_none atoms columns i tuple text lt e =
    further_step atoms (columns - i) (columns - (i + 1)) tuple text (omega arith) ∙ ap (next_column atoms (columns - (i + 1)) tuple) (sym e)

pub further_end : (atoms : List (List ℕ)) (columns i : ℕ) (tuple text : List ℕ) → columns ≤ i → further_atoms atoms (columns - i) tuple text ≡ Some (tuple, text)
further_end atoms columns i tuple text h = let e : columns - i ≡ 0 = omega arith in ap (λ n. further_atoms atoms n tuple text) e

-- ---- the tuples of a line

abbrev next_tuples : List (List ℕ) → ℕ → ℕ → Option (List (List ℕ) × List ℕ) → Option (List (List ℕ))
next_tuples atoms columns k o = option_and_then (λ found. tuples_of atoms columns k found.0 found.1) o

tuples_step : (atoms : List (List ℕ)) (columns k j : ℕ) (tuples : List (List ℕ)) (text : List ℕ) → k ≡ suc j → 0 < length text → tuples_of atoms columns k tuples text ≡ next_tuples atoms columns j (one_more atoms columns tuples text)
tuples_step atoms columns k j tuples [] e h = absurd (omega arith)
tuples_step atoms columns k j tuples (byte ∷ bytes) e h = ap (λ n. tuples_of atoms columns n tuples (byte ∷ bytes)) e

pub tuples_more : (atoms : List (List ℕ)) (columns most i : ℕ) (tuples : List (List ℕ)) (text : List ℕ) (more : List (List ℕ)) (next : List ℕ) → i < most → 0 < length text → Some (more, next) ≡ one_more atoms columns tuples text
    → tuples_of atoms columns (most - i) tuples text ≡ tuples_of atoms columns (most - (i + 1)) more next
tuples_more atoms columns most i tuples text more next lt h e =
    tuples_step atoms columns (most - i) (most - (i + 1)) tuples text (omega arith) h ∙ ap (next_tuples atoms columns (most - (i + 1))) (sym e)

pub tuples_none : (atoms : List (List ℕ)) (columns most i : ℕ) (tuples : List (List ℕ)) (text : List ℕ) → i < most → 0 < length text → None ≡ one_more atoms columns tuples text
    → tuples_of atoms columns (most - i) tuples text ≡ None
tuples_none atoms columns most i tuples text lt h e =
    tuples_step atoms columns (most - i) (most - (i + 1)) tuples text (omega arith) h ∙ ap (next_tuples atoms columns (most - (i + 1))) (sym e)

pub tuples_over : (atoms : List (List ℕ)) (columns most : ℕ) (tuples : List (List ℕ)) (text : List ℕ) → length text ≡ 0 → tuples_of atoms columns most tuples text ≡ Some tuples
tuples_over atoms columns most tuples [] h = refl
tuples_over atoms columns most tuples (byte ∷ bytes) h = absurd (omega arith)

pub tuples_spent : (atoms : List (List ℕ)) (columns most i : ℕ) (tuples : List (List ℕ)) (text : List ℕ) → most ≤ i → 0 < length text → tuples_of atoms columns (most - i) tuples text ≡ None
tuples_spent atoms columns most i tuples [] h some = absurd (omega arith)
tuples_spent atoms columns most i tuples (byte ∷ bytes) h some = let e : most - i ≡ 0 = omega arith in ap (λ n. tuples_of atoms columns n tuples (byte ∷ bytes)) e

-- ---- the relations of a state

abbrev next_relations : List (List ℕ) → List TupleList → List RelationLabel → Way TupleList → Way (List TupleList)
next_relations atoms sets rs way = go (λ set rest m. relations_way atoms (sets ++ set ∷ []) rs rest m) way

relations_step : (atoms : List (List ℕ)) (sets : List TupleList) (rs : List RelationLabel) (i : ℕ) (r : RelationLabel) (lines : List (List ℕ)) (n : ℕ) → i < length rs → r ≡ get_or rs i r
    → relations_way atoms sets (drop i rs) lines n ≡ next_relations atoms sets (drop (i + 1) rs) (relation_way atoms r lines n)
relations_step atoms sets rs i r lines n lt e =
    ap (λ xs. relations_way atoms sets xs lines n) (drop_more rs i r lt) ∙ ap (λ x. next_relations atoms sets (drop (i + 1) rs) (relation_way atoms x lines n)) (sym e)

pub relations_more : (atoms : List (List ℕ)) (sets : List TupleList) (rs : List RelationLabel) (i : ℕ) (r : RelationLabel) (lines : List (List ℕ)) (n : ℕ) (set : TupleList) (rest : List (List ℕ)) (m : ℕ) → i < length rs → r ≡ get_or rs i r
    → on set rest m ≡ relation_way atoms r lines n → relations_way atoms sets (drop i rs) lines n ≡ relations_way atoms (sets ++ set ∷ []) (drop (i + 1) rs) rest m
relations_more atoms sets rs i r lines n set rest m lt e way =
    relations_step atoms sets rs i r lines n lt e ∙ ap (next_relations atoms sets (drop (i + 1) rs)) (sym way)

pub relations_none : (atoms : List (List ℕ)) (sets : List TupleList) (rs : List RelationLabel) (i : ℕ) (r : RelationLabel) (lines : List (List ℕ)) (n k : ℕ) → i < length rs → r ≡ get_or rs i r
    → off k ≡ relation_way atoms r lines n → relations_way atoms sets (drop i rs) lines n ≡ off k
relations_none atoms sets rs i r lines n k lt e way =
    relations_step atoms sets rs i r lines n lt e ∙ ap (next_relations atoms sets (drop (i + 1) rs)) (sym way)

pub relations_end : (atoms : List (List ℕ)) (sets : List TupleList) (rs : List RelationLabel) (i : ℕ) (lines : List (List ℕ)) (n : ℕ) → length rs ≤ i → relations_way atoms sets (drop i rs) lines n ≡ on sets lines n
relations_end atoms sets rs i lines n h = ap (λ xs. relations_way atoms sets xs lines n) (drop_all i rs h)

-- ---- the states

abbrev next_states : Labels → ℕ → List (List TupleList) → ℕ → Way (List TupleList) → Way (List (List TupleList))
next_states labels k states number way = go (λ state rest m. states_way labels k (states ++ state ∷ []) number rest m) way

states_step : (labels : Labels) (k j : ℕ) (states : List (List TupleList)) (number next : ℕ) (lines : List (List ℕ)) (n : ℕ) → k ≡ suc j → next ≡ suc number
    → states_way labels k states number lines n ≡ next_states labels j states next (state_way labels number lines n)
states_step labels k j states number next lines n e f =
    ap (λ c. states_way labels c states number lines n) e ∙ ap (λ c. next_states labels j states c (state_way labels number lines n)) (sym f)

pub states_more : (labels : Labels) (count i : ℕ) (states : List (List TupleList)) (lines : List (List ℕ)) (n : ℕ) (state : List TupleList) (rest : List (List ℕ)) (m : ℕ) → i < count → on state rest m ≡ state_way labels i lines n
    → states_way labels (count - i) states i lines n ≡ states_way labels (count - (i + 1)) (states ++ state ∷ []) (i + 1) rest m
states_more labels count i states lines n state rest m lt way =
    states_step labels (count - i) (count - (i + 1)) states i (i + 1) lines n (omega arith) (omega arith) ∙ ap (next_states labels (count - (i + 1)) states (i + 1)) (sym way)

pub states_none : (labels : Labels) (count i : ℕ) (states : List (List TupleList)) (lines : List (List ℕ)) (n k : ℕ) → i < count → off k ≡ state_way labels i lines n → states_way labels (count - i) states i lines n ≡ off k
states_none labels count i states lines n k lt way =
    states_step labels (count - i) (count - (i + 1)) states i (i + 1) lines n (omega arith) (omega arith) ∙ ap (next_states labels (count - (i + 1)) states (i + 1)) (sym way)

pub states_end : (labels : Labels) (count i : ℕ) (states : List (List TupleList)) (lines : List (List ℕ)) (n : ℕ) → count ≤ i → states_way labels (count - i) states i lines n ≡ on states lines n
states_end labels count i states lines n h = let e : count - i ≡ 0 = omega arith in ap (λ c. states_way labels c states i lines n) e
