-- The text of a lasso is read again, as that lasso.
use Rattle.std.proofs.Common.{◌≡◌, ℕ, zero, suc, ◌+◌, ◌<◌, ◌≤◌, ◌^◌, Bool, true, false, cond, ◌&&◌, eqb, eq-eqb, not, List, [], ◌∷◌, ◌++◌, map, length, take, drop, get_or, flat_map, codes, decimal, Option, Some, None, option_map, nat_lt, slice_get, Contains, refl, sym, ap, ◌∙◌, arith, append_assoc, subst}
use Rattle.std.specs.List.{list_any, position_or_len, AllByRecursion}
use Rattle.std.specs.Option.{option_and_then}
use Rattle.std.proofs.lemmas.Bool.{lt-ltb, ne_eqb, eqb-true, or_parts, or_from}
use Rattle.std.proofs.lemmas.List.{take_at, drop_at, append-nil, take_all, drop_more, drop_all, take_more, flat_map_more}
use Rattle.std.proofs.lemmas.List.Elements.{All-from_recursion}
use Rattle.std.proofs.lemmas.List.Folds.{list_any-append}
use Rattle.std.proofs.lemmas.List.Sums.{passes_at_first}
use Rattle.std.proofs.lemmas.List.Splits.{slice_split_at, length-slice_split}
use Rattle.std.proofs.lemmas.Option.{slice_get-get_or, get_or_from_slice_get, slice_get-map}
use Rattle.std.proofs.lemmas.Slice.Eq.{bytes_eq-Decides}
use Rattle.base_words.specs.Words.{is_feed, parts, decimal_of}
use Rattle.core_tuples.specs.Sets.{TupleList}
use Rattle.core_meaning.specs.Sequence.{LassoValue}
use Rattle.answer_trace.specs.declared.label.Shown.{Shown}
use Rattle.answer_trace.specs.declared.label.Shown.TheVariants.{Line, Nothing, Just}
use Rattle.answer_trace.specs.declared.label.RelationLabel.{RelationLabel}
use Rattle.answer_trace.specs.declared.label.Labels.{Labels}
use Rattle.answer_trace.specs.Text.{tuples_text, set_text, shown_text, relation_text, state_text, nth_state_text, states_text, header_text, trace_text}
use Rattle.answer_trace.specs.Reading.{go, after_line, on_line, no_line, where_true, is_width, set_with, set_of, line_set, shown_way, relation_way, relations_way, order_of, orders_before, orders_of, one_set, arranged, with_state, is_rest, is_state_line, state_way, states_way, is_blank, behind, tuples_of, counts, header_numbers, header_of, end_way, with_start, body_way, lines_way, trace_way}
use Rattle.answer_trace.specs.Reading.Way.{on}
use Rattle.answer_laws.proofs.Again.{AreAtoms, IsTuple, ComeAfter, behind_again, place_at, decimal_again, none_in_decimal, tuples_again}

-- ---- lines

none_of : (p : ℕ → Bool) (xs : List ℕ) → list_any p xs ≡ false → AllByRecursion (λ x. p x ≡ false) xs
none_of p [] e = tt
none_of p (x ∷ xs) e = let both = or_parts (p x) (list_any p xs) e in (both.0, none_of p xs both.1)

parts_line : (line rest : List ℕ) → list_any is_feed line ≡ false → parts (line ++ 10 ∷ rest) ≡ line ∷ parts rest
parts_line line rest e = slice_split_at is_feed line 10 rest (All-from_recursion (λ x. is_feed x ≡ false) line (none_of is_feed line e)) refl

some_parts : (text : List ℕ) → 1 ≤ length (parts text)
some_parts text = omega (arith, length-slice_split is_feed text)

taken : {A : Type 0} (f : List ℕ → Option A) (line : List ℕ) (rest : List (List ℕ)) (n : ℕ) → 1 ≤ length rest → on_line f (line ∷ rest) n ≡ after_line rest n (f line)
taken f line [] n h = absurd (omega arith)
taken f line (next ∷ rest) n h = refl

line_taken : {A : Type 0} (f : List ℕ → Option A) (line rest : List ℕ) (a : A) (n : ℕ) → list_any is_feed line ≡ false → f line ≡ Some a → on_line f (parts (line ++ 10 ∷ rest)) n ≡ on a (parts rest) (suc n)
line_taken f line rest a n none e =
    ap (λ ls. on_line f ls n) (parts_line line rest none) ∙ taken f line (parts rest) n (some_parts rest) ∙ ap (after_line (parts rest) n) e

no_feed_in_both : (xs ys : List ℕ) → list_any is_feed xs ≡ false → list_any is_feed ys ≡ false → list_any is_feed (xs ++ ys) ≡ false
no_feed_in_both xs ys e f = list_any-append is_feed xs ys ∙ or_from (list_any is_feed xs) (list_any is_feed ys) e f

digit_no_feed : (d : ℕ) → d < 10 → is_feed (48 + d) ≡ false
digit_no_feed d h = ne_eqb (48 + d) 10 (λ e. absurd (omega arith))

digit_no_blank : (d : ℕ) → d < 10 → is_blank (48 + d) ≡ false
digit_no_blank d h = ne_eqb (48 + d) 32 (λ e. absurd (omega arith))

-- ---- the set of a relation

abbrev pub HoldsTuples : Shown → List (List ℕ) → Type 0
HoldsTuples Line tuples = Unit {0}
HoldsTuples Nothing tuples = tuples ≡ []
HoldsTuples (Just a) tuples = tuples ≡ (a ∷ []) ∷ []

abbrev pub IsHidden : Shown → ℕ → Type 0
IsHidden Line columns = Unit {0}
IsHidden Nothing columns = Unit {0}
IsHidden (Just a) columns = ((eqb columns 1) && nat_lt a 16384) ≡ true

-- what is known of the set that a state has for a relation
pub record HasSet (labels : Labels) (state : List TupleList) (r : RelationLabel) : Type 0 where
  pub set : TupleList
  pub there : slice_get state r.place ≡ Some set
  pub columns : set.arity ≡ r.columns
  pub width : is_width r.columns ≡ true
  pub some : 1 ≤ r.columns
  pub tuples : AllByRecursion (IsTuple labels.atoms r.columns) set.tuples
  pub order : ComeAfter [] set.tuples
  pub feeds : list_any is_feed (tuples_text labels.atoms set.tuples) ≡ false
  pub label : list_any is_feed r.label ≡ false
  pub holds : HoldsTuples r.shown set.tuples
  pub hidden : IsHidden r.shown r.columns

set_is : (set : TupleList) (columns : ℕ) → set.arity ≡ columns → set_with columns set.tuples ≡ set
set_is set columns e = ap (λ n. set_with n set.tuples) (sym e)

set_again : (atoms : List (List ℕ)) → AreAtoms atoms → (columns : ℕ) (tuples : List (List ℕ)) → is_width columns ≡ true → 1 ≤ columns → AllByRecursion (IsTuple atoms columns) tuples → ComeAfter [] tuples
    → set_of atoms columns (tuples_text atoms tuples) ≡ Some (set_with columns tuples)
set_again atoms are columns tuples width some each after =
    ap (λ b. cond b (option_map (set_with columns) (tuples_of atoms columns (length (tuples_text atoms tuples)) [] (tuples_text atoms tuples))) None) width
    ∙ ap (option_map (set_with columns)) (tuples_again atoms are columns (length (tuples_text atoms tuples)) tuples some each after (omega arith))

abbrev line_of : List (List ℕ) → RelationLabel → List (List ℕ) → List ℕ
line_of atoms r tuples = r.label ++ codes " =" ++ tuples_text atoms tuples

line_again : (atoms : List (List ℕ)) → AreAtoms atoms → (r : RelationLabel) (tuples : List (List ℕ)) → is_width r.columns ≡ true → 1 ≤ r.columns → AllByRecursion (IsTuple atoms r.columns) tuples → ComeAfter [] tuples
    → line_set atoms r (line_of atoms r tuples) ≡ Some (set_with r.columns tuples)
line_again atoms are r tuples width some each after =
    ap (λ t. option_and_then (set_of atoms r.columns) (option_and_then (behind (codes " =")) (behind r.label t))) (append_assoc r.label (codes " =") (tuples_text atoms tuples))
    ∙ ap (λ o. option_and_then (set_of atoms r.columns) (option_and_then (behind (codes " =")) o)) (behind_again r.label (codes " =" ++ tuples_text atoms tuples))
    ∙ ap (option_and_then (set_of atoms r.columns)) (behind_again (codes " =") (tuples_text atoms tuples))
    ∙ set_again atoms are r.columns tuples width some each after

-- how many lines a relation has
abbrev lines_of : Shown → ℕ → ℕ
lines_of Line n = suc n
lines_of Nothing n = n
lines_of (Just a) n = n

shown_again : (labels : Labels) → AreAtoms labels.atoms → (r : RelationLabel) (shown : Shown) (set : TupleList) (rest : List ℕ) (n : ℕ) → set.arity ≡ r.columns → is_width r.columns ≡ true → 1 ≤ r.columns → AllByRecursion (IsTuple labels.atoms r.columns) set.tuples → ComeAfter [] set.tuples
    → list_any is_feed (line_of labels.atoms r set.tuples) ≡ false → HoldsTuples shown set.tuples → IsHidden shown r.columns
    → shown_way labels.atoms r shown (parts (shown_text shown (r.label ++ codes " =" ++ tuples_text labels.atoms set.tuples ++ codes "\n") ++ rest)) n ≡ on set (parts rest) (lines_of shown n)
shown_again labels are r Line set rest n columns width some each after feeds holds hidden =
    ap (λ t. on_line (line_set labels.atoms r) (parts t) n) (append_assoc (line_of labels.atoms r set.tuples) (codes "\n") rest)
    ∙ line_taken (line_set labels.atoms r) (line_of labels.atoms r set.tuples) rest (set_with r.columns set.tuples) n feeds (line_again labels.atoms are r set.tuples width some each after)
    ∙ ap (λ s. on s (parts rest) (suc n)) (set_is set r.columns columns)
shown_again labels are r Nothing set rest n columns width some each after feeds holds hidden =
    ap (λ b. no_line (parts rest) n (cond b (Some (set_with r.columns [])) None)) width
    ∙ ap (λ ts. on (set_with r.columns ts) (parts rest) n) (sym holds)
    ∙ ap (λ s. on s (parts rest) n) (set_is set r.columns columns)
shown_again labels are r (Just a) set rest n columns width some each after feeds holds hidden =
    ap (λ b. no_line (parts rest) n (cond b (Some (set_with r.columns ((a ∷ []) ∷ []))) None)) hidden
    ∙ ap (λ ts. on (set_with r.columns ts) (parts rest) n) (sym holds)
    ∙ ap (λ s. on s (parts rest) n) (set_is set r.columns columns)

relation_again : (labels : Labels) → AreAtoms labels.atoms → (state : List TupleList) (r : RelationLabel) (rest : List ℕ) (n : ℕ) (has : HasSet labels state r)
    → relation_way labels.atoms r (parts (relation_text labels.atoms state r ++ rest)) n ≡ on has.set (parts rest) (lines_of r.shown n)
relation_again labels are state r rest n has =
    ap (λ o. relation_way labels.atoms r (parts (shown_text r.shown (r.label ++ codes " =" ++ set_text labels.atoms o ++ codes "\n") ++ rest)) n) has.there
    ∙ shown_again labels are r r.shown has.set rest n has.columns has.width has.some has.tuples has.order
    (no_feed_in_both (r.label ++ codes " =") (tuples_text labels.atoms has.set.tuples) (no_feed_in_both r.label (codes " =") has.label refl) has.feeds) has.holds has.hidden

-- ---- the relations of a state

no_set : TupleList
no_set = record { arity = 0; tuples = [] }

abbrev set_at : List TupleList → RelationLabel → TupleList
set_at state r = get_or state r.place no_set

abbrev lines_after : List RelationLabel → ℕ → ℕ
lines_after [] n = n
lines_after (r ∷ rs) n = lines_after rs (lines_of r.shown n)

relations_again : (labels : Labels) → AreAtoms labels.atoms → (state sets : List TupleList) (rs : List RelationLabel) (rest : List ℕ) (n : ℕ) → AllByRecursion (HasSet labels state) rs
    → relations_way labels.atoms sets rs (parts (flat_map (relation_text labels.atoms state) rs ++ rest)) n ≡ on (sets ++ map (set_at state) rs) (parts rest) (lines_after rs n)
relations_again labels are state sets [] rest n each = ap (λ s. on s (parts rest) n) (sym (append-nil sets))
relations_again labels are state sets (r ∷ rs) rest n each =
    let here : set_at state r ≡ each.0.set = get_or_from_slice_get state r.place each.0.set no_set each.0.there in
    let tail : List ℕ = flat_map (relation_text labels.atoms state) rs ++ rest in
    ap (λ t. relations_way labels.atoms sets (r ∷ rs) (parts t) n) (append_assoc (relation_text labels.atoms state r) (flat_map (relation_text labels.atoms state) rs) rest)
    ∙ ap (go (λ set others m. relations_way labels.atoms (sets ++ set ∷ []) rs others m)) (relation_again labels are state r tail n each.0)
    ∙ relations_again labels are state (sets ++ each.0.set ∷ []) rs rest (lines_of r.shown n) each.1
    ∙ ap (λ s. on s (parts rest) (lines_after rs (lines_of r.shown n))) (append_assoc sets (each.0.set ∷ []) (map (set_at state) rs) ∙ ap (λ s. sets ++ s ∷ map (set_at state) rs) (sym here))

-- each place of a state is that of a relation
abbrev pub ArePlaced : List RelationLabel → Type 0
ArePlaced rs = (k : ℕ) → k < length rs → (r : RelationLabel) × Contains rs r × (r.place ≡ k)

pub first_of : (rs : List RelationLabel) (k : ℕ) (r : RelationLabel) → Contains rs r → r.place ≡ k → order_of rs k < length rs
first_of [] k r (i, lt, e) same = absurd (omega arith)
first_of (x ∷ rs) k r there same = by_test (eqb x.place k) refl there (λ later. first_of rs k r later same)
  where
    by_test : (b : Bool) → eqb x.place k ≡ b → Contains (x ∷ rs) r → (Contains rs r → order_of rs k < length rs) → order_of (x ∷ rs) k < suc (length rs)
    by_test true t there more = subst (λ b. cond (not b) (1 + order_of rs k) 0 < suc (length rs)) (sym t) (omega arith)
    by_test false t (zero, lt, e) more = absurd (let bad : eqb x.place k ≡ true = eq-eqb x.place k (ap (λ (y : RelationLabel). y.place) e ∙ same) in let no : true ≡ false = sym bad ∙ t in cc)
    by_test false t (suc i, lt, e) more =
        let later : order_of rs k < length rs = more (i, omega arith, e) in
        subst (λ b. cond (not b) (1 + order_of rs k) 0 < suc (length rs)) (sym t) (omega arith)

same_state : (state : List TupleList) (rs : List RelationLabel) (k : ℕ) → length state ≡ length rs → k < length rs → ArePlaced rs → one_set (slice_get (map (set_at state) rs) (order_of rs k)) ≡ get_or state k no_set ∷ []
same_state state rs k count lt placed =
    let found = placed k lt in
    let within : order_of rs k < length rs = first_of rs k found.0 found.1 found.2 in
    let at : RelationLabel = get_or rs (order_of rs k) found.0 in
    let passes : eqb at.place k ≡ true = passes_at_first (λ (r : RelationLabel). eqb r.place k) rs found.0 within in
    let place : at.place ≡ k = eqb-true at.place k passes in
    ap one_set (slice_get-map (set_at state) rs (order_of rs k) ∙ ap (option_map (set_at state)) (slice_get-get_or rs (order_of rs k) found.0 within))
    ∙ ap (λ n. get_or state n no_set ∷ []) place

arranged_again : (state : List TupleList) (rs : List RelationLabel) (k : ℕ) → length state ≡ length rs → k ≤ length rs → ArePlaced rs → arranged (orders_before rs k) (map (set_at state) rs) ≡ take k state
arranged_again state rs zero count h placed = refl
arranged_again state rs (suc k) count h placed =
    let f : ℕ → List TupleList = λ order. one_set (slice_get (map (set_at state) rs) order) in
    let next : k + 1 ≡ suc k = omega arith in
    sym (flat_map_more f [] (orders_before rs k) (order_of rs k))
    ∙ ap (λ xs. xs ++ f (order_of rs k)) (arranged_again state rs k count (omega arith) placed)
    ∙ ap (λ xs. take k state ++ xs) (same_state state rs k count (omega arith) placed)
    ∙ sym (take_more state k no_set (omega arith))
    ∙ ap (λ n. take n state) next

-- ---- a state

-- what is known of a state
pub record HasSets (labels : Labels) (state : List TupleList) : Type 0 where
  pub count : length state ≡ length labels.relations
  pub each : AllByRecursion (HasSet labels state) labels.relations

state_line_again : (i : ℕ) → is_state_line i (codes "state " ++ decimal i) ≡ true
state_line_again i = ap (is_rest (decimal i)) (behind_again (codes "state ") (decimal i)) ∙ (bytes_eq-Decides (decimal i) (decimal i)).1 refl

state_again : (labels : Labels) → AreAtoms labels.atoms → ArePlaced labels.relations → (i : ℕ) (state : List TupleList) (rest : List ℕ) (n : ℕ) → i < 2 ^ 32 → HasSets labels state
    → state_way labels i (parts (state_text labels i state ++ rest)) n ≡ on state (parts rest) (lines_after labels.relations (suc n))
state_again labels are placed i state rest n few has =
    let body : List ℕ = flat_map (relation_text labels.atoms state) labels.relations ++ rest in
    let feeds : list_any is_feed (codes "state " ++ decimal i) ≡ false = no_feed_in_both (codes "state ") (decimal i) refl (none_in_decimal is_feed i digit_no_feed (omega arith)) in
    let sets : List TupleList = map (set_at state) labels.relations in
    let whole : arranged (orders_of labels.relations) sets ≡ state = arranged_again state labels.relations (length labels.relations) has.count (omega arith) placed ∙ take_all (length labels.relations) state (omega (arith, has.count)) in
    ap (λ t. state_way labels i (parts t) n) (append_assoc (codes "state " ++ decimal i ++ codes "\n") (flat_map (relation_text labels.atoms state) labels.relations) rest ∙ append_assoc (codes "state " ++ decimal i) (codes "\n") body)
    ∙ ap (go (λ none others m. go (with_state labels.relations) (relations_way labels.atoms [] labels.relations others m)))
    (line_taken (λ line. where_true (is_state_line i line)) (codes "state " ++ decimal i) body 0 n feeds (ap where_true (state_line_again i)))
    ∙ ap (go (with_state labels.relations)) (relations_again labels are state [] labels.relations rest (suc n) has.each)
    ∙ ap (λ s. on s (parts rest) (lines_after labels.relations (suc n))) whole

-- ---- the states

abbrev pub from_text : Labels → ℕ → List (List TupleList) → List ℕ
from_text labels i [] = []
from_text labels i (state ∷ states) = state_text labels i state ++ from_text labels (suc i) states

split_text : (labels : Labels) (vs : List (List TupleList)) (n : ℕ) → n ≤ length vs → states_text labels vs n ++ from_text labels n (drop n vs) ≡ from_text labels 0 vs
split_text labels vs zero h = refl
split_text labels vs (suc n) h =
    let one : n + 1 ≡ suc n = omega arith in
    let next : drop n vs ≡ get_or vs n [] ∷ drop (suc n) vs = drop_more vs n [] (omega arith) ∙ ap (λ m. get_or vs n [] ∷ drop m vs) one in
    ap (λ o. (states_text labels vs n ++ nth_state_text labels n o) ++ from_text labels (suc n) (drop (suc n) vs)) (slice_get-get_or vs n [] (omega arith))
    ∙ append_assoc (states_text labels vs n) (state_text labels n (get_or vs n [])) (from_text labels (suc n) (drop (suc n) vs))
    ∙ ap (λ xs. states_text labels vs n ++ from_text labels n xs) (sym next)
    ∙ split_text labels vs n (omega arith)

pub whole_text : (labels : Labels) (vs : List (List TupleList)) → states_text labels vs (length vs) ≡ from_text labels 0 vs
whole_text labels vs =
    sym (append-nil (states_text labels vs (length vs)))
    ∙ ap (λ xs. states_text labels vs (length vs) ++ from_text labels (length vs) xs) (sym (drop_all (length vs) vs (omega arith)))
    ∙ split_text labels vs (length vs) (omega arith)

abbrev lines_behind : Labels → List (List TupleList) → ℕ → ℕ
lines_behind labels [] n = n
lines_behind labels (state ∷ states) n = lines_behind labels states (lines_after labels.relations (suc n))

states_again : (labels : Labels) → AreAtoms labels.atoms → ArePlaced labels.relations → (states before : List (List TupleList)) (i : ℕ) (rest : List ℕ) (n : ℕ) → i + length states < 2 ^ 32 → AllByRecursion (HasSets labels) states
    → states_way labels (length states) before i (parts (from_text labels i states ++ rest)) n ≡ on (before ++ states) (parts rest) (lines_behind labels states n)
states_again labels are placed [] before i rest n few each = ap (λ s. on s (parts rest) n) (sym (append-nil before))
states_again labels are placed (state ∷ states) before i rest n few each =
    let tail : List ℕ = from_text labels (suc i) states ++ rest in
    ap (λ t. states_way labels (suc (length states)) before i (parts t) n) (append_assoc (state_text labels i state) (from_text labels (suc i) states) rest)
    ∙ ap (go (λ s others m. states_way labels (length states) (before ++ s ∷ []) (suc i) others m)) (state_again labels are placed i state tail n (omega arith) each.0)
    ∙ states_again labels are placed states (before ++ state ∷ []) (suc i) rest (lines_after labels.relations (suc n)) (omega arith) each.1
    ∙ ap (λ s. on s (parts rest) (lines_behind labels states (lines_after labels.relations (suc n)))) (append_assoc before (state ∷ []) states)

-- ---- a lasso

abbrev pub header_line : ℕ → ℕ → List ℕ
header_line count start = codes "trace states " ++ decimal count ++ codes " loop " ++ decimal start

header_again : (count start : ℕ) → start < count → count < 2 ^ 32 → header_of (header_line count start) ≡ Some (count, start)
header_again count start less few =
    let word : List ℕ = decimal count in
    let rest : List ℕ = codes " loop " ++ decimal start in
    let whole : header_line count start ≡ codes "trace states " ++ (word ++ rest) = append_assoc (codes "trace states " ++ word) (codes " loop ") (decimal start) ∙ append_assoc (codes "trace states ") word rest in
    let place : position_or_len is_blank (word ++ rest) ≡ length word = place_at is_blank word rest (none_in_decimal is_blank count digit_no_blank (omega arith)) refl in
    let numbers : ℕ → Option (ℕ × ℕ) = λ p. counts (decimal_of 4294967295 (take p (word ++ rest))) (option_and_then (decimal_of 4294967295) (behind (codes " loop ") (drop p (word ++ rest)))) in
    ap (λ t. option_and_then header_numbers (behind (codes "trace states ") t)) whole
    ∙ ap (option_and_then header_numbers) (behind_again (codes "trace states ") (word ++ rest))
    ∙ ap numbers place
    ∙ ap (λ t. counts (decimal_of 4294967295 t) (option_and_then (decimal_of 4294967295) (behind (codes " loop ") (drop (length word) (word ++ rest))))) (take_at word rest (length word) refl)
    ∙ ap (λ t. counts (decimal_of 4294967295 word) (option_and_then (decimal_of 4294967295) (behind (codes " loop ") t))) (drop_at word rest (length word) refl)
    ∙ ap (λ o. counts (decimal_of 4294967295 word) (option_and_then (decimal_of 4294967295) o)) (behind_again (codes " loop ") (decimal start))
    ∙ ap (λ o. counts o (decimal_of 4294967295 (decimal start))) (decimal_again 4294967295 count (omega arith) (omega arith))
    ∙ ap (counts (Some count)) (decimal_again 4294967295 start (omega arith) (omega arith))
    ∙ ap (λ b. cond b (Some (count, start)) None) (lt-ltb start count less)

pub header_feeds : (count start : ℕ) → count < 2 ^ 32 → start < 2 ^ 32 → list_any is_feed (header_line count start) ≡ false
header_feeds count start h k =
    no_feed_in_both (codes "trace states " ++ decimal count ++ codes " loop ") (decimal start)
    (no_feed_in_both (codes "trace states " ++ decimal count) (codes " loop ") (no_feed_in_both (codes "trace states ") (decimal count) refl (none_in_decimal is_feed count digit_no_feed (omega arith))) refl)
    (none_in_decimal is_feed start digit_no_feed (omega arith))

-- what is known of a lasso
pub record HasStates (labels : Labels) (lasso : LassoValue) : Type 0 where
  pub few : length lasso.states < 2 ^ 32
  pub less : lasso.loop_start < length lasso.states
  pub each : AllByRecursion (HasSets labels) lasso.states

body_again : (labels : Labels) → AreAtoms labels.atoms → ArePlaced labels.relations → (lasso : LassoValue) (n : ℕ) → HasStates labels lasso
    → body_way labels (length lasso.states, lasso.loop_start) (parts (states_text labels lasso.states (length lasso.states) ++ codes "end\n")) n ≡ on lasso ([] ∷ []) (suc (lines_behind labels lasso.states n))
body_again labels are placed lasso n has =
    ap (λ t. body_way labels (length lasso.states, lasso.loop_start) (parts (t ++ codes "end\n")) n) (whole_text labels lasso.states)
    ∙ ap (go (λ states others k. go (λ none rest m. with_start lasso.loop_start states rest m) (end_way others k))) (states_again labels are placed lasso.states [] 0 (codes "end\n") n (omega (arith, has.few)) has.each)

pub trace_again : (labels : Labels) → AreAtoms labels.atoms → ArePlaced labels.relations → (lasso : LassoValue) → HasStates labels lasso → (m : ℕ) × (trace_way labels (trace_text labels lasso) ≡ on lasso ([] ∷ []) m)
trace_again labels are placed lasso has =
    let count : ℕ = length lasso.states in
    let few : length lasso.states < 2 ^ 32 = has.few in
    let less : lasso.loop_start < length lasso.states = has.less in
    let body : List ℕ = states_text labels lasso.states count ++ codes "end\n" in (
      suc (lines_behind labels lasso.states 1),
      ap (λ t. lines_way labels (parts t) 0) (append_assoc (header_text count lasso.loop_start) (states_text labels lasso.states count) (codes "end\n") ∙ append_assoc (header_line count lasso.loop_start) (codes "\n") body)
          ∙ ap (go (body_way labels)) (line_taken header_of (header_line count lasso.loop_start) body (count, lasso.loop_start) 0 (header_feeds count lasso.loop_start few (omega arith)) (header_again count lasso.loop_start less few))
          ∙ body_again labels are placed lasso 1 has,
    )
