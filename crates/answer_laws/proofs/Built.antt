-- Lines that begin the lines of values begin the text of a lasso.
use Rattle.std.proofs.Common.{◌≡◌, ℕ, zero, suc, ◌+◌, ◌-◌, ◌<◌, ◌≤◌, ◌^◌, ◌⊎◌, inl, inr, Bool, true, false, cond, ◌&&◌, ◌||◌, eqb, eq-eqb, List, [], ◌∷◌, ◌++◌, map, length, take, get_or, flat_map, codes, decimal, Option, Some, None, nat_lt, nat_le, slice_get, All, refl, sym, ap, ◌∙◌, arith, append_assoc, subst, length-append}
use Rattle.std.specs.List.{AllByRecursion, list_any}
use Rattle.std.specs.List.Sorted.{IsStrictlySortedBy}
use Rattle.std.specs.Str.{bytes_eq}
use Rattle.std.specs.declared.cmp.Ordering.{Ordering}
use Rattle.std.specs.declared.cmp.Ordering.TheVariants.{Less, Equal, Greater}
use Rattle.std.specs.Cmp.Lexicographic.{nat_list_cmp_total}
use Rattle.std.proofs.lemmas.Bool.{leb-true, eqb-true, ne_eqb, le-leb, lt-ltb, or_parts, or_from, cases_lt}
use Rattle.std.proofs.lemmas.List.{append-nil, flat_map_more, get_or_append_left, get_or_at, length-map}
use Rattle.std.proofs.lemmas.List.Elements.{All-from_recursion, recursion_from_All}
use Rattle.std.proofs.lemmas.List.Folds.{list_any-append}
use Rattle.std.proofs.lemmas.List.Sums.{passes_at_first}
use Rattle.std.proofs.lemmas.List.Splits.{slice_split_at, length-slice_split}
use Rattle.std.proofs.lemmas.Option.{slice_get-get_or, get_or_from_slice_get, slice_get_within}
use Rattle.std.proofs.lemmas.Slice.Eq.{bytes_eq-Decides}
use Rattle.base_words.specs.Words.{is_feed, parts}
use Rattle.core_tuples.specs.Index.{IsNumber}
use Rattle.core_tuples.specs.Sets.{TupleList, IsTupleSet, tuple_cmp}
use Rattle.core_meaning.specs.Sequence.{LassoValue}
use Rattle.answer_trace.specs.declared.label.Shown.{Shown}
use Rattle.answer_trace.specs.declared.label.Shown.TheVariants.{Line, Nothing, Just}
use Rattle.answer_trace.specs.declared.label.RelationLabel.{RelationLabel}
use Rattle.answer_trace.specs.declared.label.Labels.{Labels}
use Rattle.answer_trace.specs.Text.{tuples_text, set_text, shown_text, relation_text, header_text, states_text, trace_text}
use Rattle.answer_trace.specs.Reading.{Way, go, on_line, where_true, is_width, is_less, comes_after, set_with, order_of, orders_before, orders_of, one_set, arranged, states_way, is_over, over_way, end_way, with_start, header_of, body_way, lines_way, trace_way}
use Rattle.answer_trace.specs.Reading.Way.{on, off}
use Rattle.answer_laws.specs.Form.{HasLines, HasAtom, HaveLassos, HoldsHidden, FitsRelation, FitsState, IsLassoOf, HasNoFeed}
use Rattle.answer_laws.specs.Fault.{ended, AgreeTo, IsFirstFault}
use Rattle.answer_laws.proofs.Again.{IsTuple, IsPlace, ComeAfter, none_in_decimal}
use Rattle.answer_laws.proofs.Whole.{HoldsTuples, ArePlaced, first_of, whole_text, from_text, header_line, header_feeds}
use Rattle.answer_laws.proofs.Fits.{tuples_feed}
use Rattle.answer_laws.proofs.Sound.{header_is}
use Rattle.answer_laws.proofs.Local.{off_is}
use Rattle.answer_laws.proofs.Progress.{Goes, Sticks, sticks_first, sticks_behind, sticks_before, took, sticks_at, IsSet, HasSome, shown_lines, IsGiven, rel_lines, AreSets, AreGiven, state_lines, states_lines, each_state, StatesOn, some_states, states_on, states_off, where_is}

-- ---- the last line

pub end_off : (lines : List (List ℕ)) (n k : ℕ) → end_way lines n ≡ off k → Sticks n k lines (codes "end" ∷ [])
end_off lines n k e = by_first (on_line (λ line. where_true (bytes_eq line (codes "end"))) lines n) refl e
  where
    f : List ℕ → Option ℕ
    f line = where_true (bytes_eq line (codes "end"))

    by_over : (a : ℕ) (rest : List (List ℕ)) (m : ℕ) → on_line f lines n ≡ on a rest m → (b : Bool) → cond {A = Way ℕ} b (on 0 rest m) (off (suc m)) ≡ off k → Sticks n k lines (codes "end" ∷ [])
    by_over a rest m was true e = cc
    by_over a rest m was false e =
        let one = took f lines n a rest m was in
        let line : one.line ≡ codes "end" = (bytes_eq-Decides one.line (codes "end")).0 (where_is (bytes_eq one.line (codes "end")) a one.gave) in
        let goes : Goes n m lines rest (codes "end" ∷ []) = subst (λ l. Goes n m lines rest (l ∷ [])) line one.goes in
        let number : suc m ≡ k = off_is (suc m) k e in
        subst (λ c. Sticks n c lines (codes "end" ∷ [])) number (sticks_behind n m (suc m) lines rest (codes "end" ∷ []) [] goes (sticks_first m rest []))

    by_first : (w : Way ℕ) → on_line f lines n ≡ w → go (λ none rest m. over_way rest m) w ≡ off k → Sticks n k lines (codes "end" ∷ [])
    by_first (off i) was e = sticks_at f lines (codes "end" ∷ []) n k (was ∙ ap off (off_is i k e))
    by_first (on a rest m) was e = by_over a rest m was (is_over rest) e

-- ---- all lines

-- what lines give
pub record Values (labels : Labels) : Type 0 where
  pub count : ℕ
  pub start : ℕ
  pub all : List (List TupleList)
  pub less : start < count
  pub few : count ≤ 4294967295
  pub long : length all ≡ count
  pub are : AllByRecursion (AreSets labels labels.relations) all

abbrev pub all_lines : (labels : Labels) → Values labels → List (List ℕ)
all_lines labels v = header_line v.count v.start ∷ (states_lines labels 0 v.all ++ codes "end" ∷ [])

some_values : (labels : Labels) → AreGiven labels labels.relations → (count start : ℕ) → start < count → count ≤ 4294967295 → Values labels
some_values labels given count start less few =
    let some = some_states labels given count in
    record { count = count; start = start; all = some.0; less = less; few = few; long = some.1; are = some.2 }

pub record LinesOff (labels : Labels) (k : ℕ) (lines : List (List ℕ)) : Type 0 where
  pub values : Values labels
  pub sticks : Sticks 0 k lines (all_lines labels values)

body_off : (labels : Labels) → AreGiven labels labels.relations → (count start : ℕ) → start < count → count ≤ 4294967295 → (lines : List (List ℕ)) (n k : ℕ) → body_way labels (count, start) lines n ≡ off k
    → (values : Values labels) × (values.count ≡ count) × (values.start ≡ start) × Sticks n k lines (states_lines labels 0 values.all ++ codes "end" ∷ [])
body_off labels given count start less few lines n k e = by_states (states_way labels count [] 0 lines n) refl e
  where
    by_end : (states : List (List TupleList)) (rest : List (List ℕ)) (m : ℕ) → StatesOn labels count [] 0 n m lines rest states → (w : Way ℕ) → end_way rest m ≡ w → go (λ none others c. with_start start states others c) w ≡ off k
        → (values : Values labels) × (values.count ≡ count) × (values.start ≡ start) × Sticks n k lines (states_lines labels 0 values.all ++ codes "end" ∷ [])
    by_end states rest m found (on a others c) was e = cc
    by_end states rest m found (off i) was e = (
      record { count = count; start = start; all = found.all; less = less; few = few; long = found.long; are = found.are },
      refl,
      refl,
      sticks_behind n m k lines rest (states_lines labels 0 found.all) (codes "end" ∷ []) found.goes (end_off rest m k (was ∙ ap off (off_is i k e))),
    )

    by_states : (w : Way (List (List TupleList))) → states_way labels count [] 0 lines n ≡ w → go (λ states others c. go (λ none rest m. with_start start states rest m) (end_way others c)) w ≡ off k
        → (values : Values labels) × (values.count ≡ count) × (values.start ≡ start) × Sticks n k lines (states_lines labels 0 values.all ++ codes "end" ∷ [])
    by_states (off i) was e =
        let found = states_off labels given count [] 0 lines n k (was ∙ ap off (off_is i k e)) in (
          record { count = count; start = start; all = found.all; less = less; few = few; long = found.long; are = found.are },
          refl,
          refl,
          sticks_before n k lines (states_lines labels 0 found.all) (codes "end" ∷ []) found.sticks,
        )
    by_states (on states rest m) was e = by_end states rest m (states_on labels given count [] 0 lines n states rest m was) (end_way rest m) refl e

pub lines_off : (labels : Labels) → AreGiven labels labels.relations → (lines : List (List ℕ)) (k : ℕ) → lines_way labels lines 0 ≡ off k → LinesOff labels k lines
lines_off labels given lines k e = by_header (on_line header_of lines 0) refl e
  where
    by_header : (w : Way (ℕ × ℕ)) → on_line header_of lines 0 ≡ w → go (body_way labels) w ≡ off k → LinesOff labels k lines
    by_header (off i) was e =
        let values : Values labels = some_values labels given 1 0 (omega arith) (omega arith) in
        record { values = values; sticks = sticks_at header_of lines (all_lines labels values) 0 k (was ∙ ap off (off_is i k e)) }
    by_header (on header rest m) was e =
        let one = took header_of lines 0 header rest m was in
        let first = header_is one.line header.0 header.1 one.gave in
        let goes : Goes 0 m lines rest (header_line header.0 header.1 ∷ []) = subst (λ l. Goes 0 m lines rest (l ∷ [])) first.text one.goes in
        let found = body_off labels given header.0 header.1 first.less first.few rest m k e in
        let line : header_line header.0 header.1 ≡ header_line found.0.count found.0.start = sym (ap (λ c. header_line c found.0.start) found.1 ∙ ap (header_line header.0) found.2) in
        record {
          values = found.0;
          sticks = subst (λ l. Sticks 0 k lines (l ∷ (states_lines labels 0 found.0.all ++ codes "end" ∷ []))) line
              (sticks_behind 0 m k lines rest (header_line header.0 header.1 ∷ []) (states_lines labels 0 found.0.all ++ codes "end" ∷ []) goes found.3);
        }

-- ---- lines as a text

abbrev pub joined : List (List ℕ) → List ℕ
joined lines = flat_map (λ line. line ++ 10 ∷ []) lines

joined_both : (xs ys : List (List ℕ)) → joined (xs ++ ys) ≡ joined xs ++ joined ys
joined_both [] ys = refl
joined_both (x ∷ xs) ys = ap (λ t. (x ++ 10 ∷ []) ++ t) (joined_both xs ys) ∙ sym (append_assoc (x ++ 10 ∷ []) (joined xs) (joined ys))

none_of : (xs : List ℕ) → list_any is_feed xs ≡ false → AllByRecursion (λ x. is_feed x ≡ false) xs
none_of [] e = tt
none_of (x ∷ xs) e = let both = or_parts (is_feed x) (list_any is_feed xs) e in (both.0, none_of xs both.1)

parts_joined : (lines : List (List ℕ)) → AllByRecursion HasNoFeed lines → parts (joined lines) ≡ lines ++ [] ∷ []
parts_joined [] none = refl
parts_joined (line ∷ lines) none =
    ap parts (append_assoc line (10 ∷ []) (joined lines))
    ∙ slice_split_at is_feed line 10 (joined lines) (All-from_recursion (λ x. is_feed x ≡ false) line (none_of line none.0)) refl
    ∙ ap (λ ls. line ∷ ls) (parts_joined lines none.1)

take_ended : (taken rest : List (List ℕ)) → 1 ≤ length rest → take (length taken) (ended (taken ++ rest)) ≡ map (λ line. (line, true)) taken
take_ended [] rest h = refl
take_ended (line ∷ []) [] h = absurd (omega arith)
take_ended (line ∷ []) (next ∷ rest) h = refl
take_ended (line ∷ next ∷ taken) rest h = ap (λ xs. (line, true) ∷ xs) (take_ended (next ∷ taken) rest h)

-- ---- the text of a state

no_set : TupleList
no_set = record { arity = 0; tuples = [] }

-- a state has these sets for relations, in order
abbrev pub HasThese : List TupleList → List RelationLabel → List TupleList → Type 0
HasThese state [] [] = Unit {0}
HasThese state [] (s ∷ ss) = ⊥
HasThese state (r ∷ rs) [] = ⊥
HasThese state (r ∷ rs) (s ∷ ss) = (slice_get state r.place ≡ Some s) × HasThese state rs ss

relation_joined : (atoms : List (List ℕ)) (state : List TupleList) (r : RelationLabel) (shown : Shown) (set : TupleList) → slice_get state r.place ≡ Some set
    → shown_text shown (r.label ++ codes " =" ++ set_text atoms (slice_get state r.place) ++ codes "\n") ≡ joined (shown_lines atoms r shown set)
relation_joined atoms state r Line set e = ap (λ o. r.label ++ codes " =" ++ set_text atoms o ++ codes "\n") e ∙ sym (append-nil (r.label ++ codes " =" ++ tuples_text atoms set.tuples ++ codes "\n"))
relation_joined atoms state r Nothing set e = refl
relation_joined atoms state r (Just a) set e = refl

relations_joined : (atoms : List (List ℕ)) (state : List TupleList) (rs : List RelationLabel) (sets : List TupleList) → HasThese state rs sets → flat_map (relation_text atoms state) rs ≡ joined (rel_lines atoms rs sets)
relations_joined atoms state [] [] has = refl
relations_joined atoms state [] (s ∷ ss) has = absurd has
relations_joined atoms state (r ∷ rs) [] has = absurd has
relations_joined atoms state (r ∷ rs) (s ∷ ss) has =
    ap (λ t. t ++ flat_map (relation_text atoms state) rs) (relation_joined atoms state r r.shown s has.0)
    ∙ ap (λ t. joined (shown_lines atoms r r.shown s) ++ t) (relations_joined atoms state rs ss has.1)
    ∙ sym (joined_both (shown_lines atoms r r.shown s) (rel_lines atoms rs ss))

-- ---- what a state has

pub record Arranged (rs : List RelationLabel) (sets : List TupleList) (k : ℕ) : Type 0 where
  pub long : length (arranged (orders_before rs k) sets) ≡ k
  pub at : (p : ℕ) → p < k → slice_get (arranged (orders_before rs k) sets) p ≡ slice_get sets (order_of rs p)

put_last : (xs : List TupleList) (x : TupleList) (k p : ℕ) → length xs ≡ k → p < k → slice_get (xs ++ x ∷ []) p ≡ slice_get xs p
put_last xs x k p long lt =
    let more : length (xs ++ x ∷ []) ≡ length xs + 1 = length-append xs (x ∷ []) in
    slice_get-get_or (xs ++ x ∷ []) p no_set (omega arith) ∙ ap Some (get_or_append_left xs (x ∷ []) no_set p (omega arith)) ∙ sym (slice_get-get_or xs p no_set (omega arith))

at_last : (xs : List TupleList) (x : TupleList) (k : ℕ) → length xs ≡ k → slice_get (xs ++ x ∷ []) k ≡ Some x
at_last xs x k long =
    let more : length (xs ++ x ∷ []) ≡ length xs + 1 = length-append xs (x ∷ []) in
    slice_get-get_or (xs ++ x ∷ []) k no_set (omega arith) ∙ ap Some (get_or_at xs x [] no_set k long)

arranged_at : (rs : List RelationLabel) (sets : List TupleList) (k : ℕ) → k ≤ length rs → ((p : ℕ) → p < length rs → order_of rs p < length sets) → Arranged rs sets k
arranged_at rs sets zero h orders = record { long = refl; at = λ p lt. absurd (omega arith) }
arranged_at rs sets (suc k) h orders =
    let f : ℕ → List TupleList = λ order. one_set (slice_get sets order) in
    let before = arranged_at rs sets k (omega arith) orders in
    let those : List TupleList = arranged (orders_before rs k) sets in
    let x : TupleList = get_or sets (order_of rs k) no_set in
    let there : slice_get sets (order_of rs k) ≡ Some x = slice_get-get_or sets (order_of rs k) no_set (orders k (omega arith)) in
    let whole : arranged (orders_before rs (suc k)) sets ≡ those ++ x ∷ [] = sym (flat_map_more f [] (orders_before rs k) (order_of rs k)) ∙ ap (λ o. those ++ one_set o) there in
    let more : length (those ++ x ∷ []) ≡ length those + 1 = length-append those (x ∷ []) in
    let long : length those ≡ k = before.long in
    let all : length (those ++ x ∷ []) ≡ suc k = omega arith in
    record { long = ap length whole ∙ all; at = λ p lt. ap (λ xs. slice_get xs p) whole ∙ by_place those x long there before.at p lt (cases_lt p k) }
  where
    by_place : (those : List TupleList) (x : TupleList) → length those ≡ k → slice_get sets (order_of rs k) ≡ Some x → ((p : ℕ) → p < k → slice_get those p ≡ slice_get sets (order_of rs p)) → (p : ℕ) → p < suc k → (p < k) ⊎ (k ≤ p) → slice_get (those ++ x ∷ []) p ≡ slice_get sets (order_of rs p)
    by_place those x long there before p lt (inl less) = put_last those x k p long less ∙ before p less
    by_place those x long there before p lt (inr more) =
        let same : k ≡ p = omega arith in
        ap (λ q. slice_get (those ++ x ∷ []) q) (sym same) ∙ at_last those x k long ∙ sym there ∙ ap (λ q. slice_get sets (order_of rs q)) same

-- no two relations have one place
abbrev pub AreOnce : List RelationLabel → Type 0
AreOnce rs = (i j : ℕ) (r s : RelationLabel) → slice_get rs i ≡ Some r → slice_get rs j ≡ Some s → r.place ≡ s.place → i ≡ j

order_is : (rs : List RelationLabel) → AreOnce rs → (i : ℕ) (r : RelationLabel) → slice_get rs i ≡ Some r → order_of rs r.place ≡ i
order_is rs once i r e =
    let within : order_of rs r.place < length rs = first_of rs r.place r (i, slice_get_within rs i r e, get_or_from_slice_get rs i r r e) refl in
    let found : RelationLabel = get_or rs (order_of rs r.place) r in
    let passes : eqb found.place r.place ≡ true = passes_at_first (λ (s : RelationLabel). eqb s.place r.place) rs r within in
    once (order_of rs r.place) i found r (slice_get-get_or rs (order_of rs r.place) r within) e (eqb-true found.place r.place passes)

later_is : {X : Type 0} (x : X) (xs : List X) (i : ℕ) (y : X) → slice_get xs i ≡ Some y → slice_get (x ∷ xs) (suc i) ≡ Some y
later_is x xs i y e =
    let lt : i < length xs = slice_get_within xs i y e in
    slice_get-get_or (x ∷ xs) (suc i) y (omega arith) ∙ ap Some (get_or_from_slice_get xs i y y e)

later_same : {X : Type 0} (x : X) (xs : List X) (i : ℕ) → i < length xs → slice_get (x ∷ xs) (suc i) ≡ slice_get xs i
later_same x xs i lt = slice_get-get_or (x ∷ xs) (suc i) x (omega arith) ∙ sym (slice_get-get_or xs i x lt)

these : (state : List TupleList) (rs : List RelationLabel) (sets : List TupleList) → length sets ≡ length rs → ((i : ℕ) (r : RelationLabel) → slice_get rs i ≡ Some r → slice_get state r.place ≡ slice_get sets i) → HasThese state rs sets
these state [] [] long at = tt
these state [] (s ∷ ss) long at = absurd (omega arith)
these state (r ∷ rs) [] long at = absurd (omega arith)
these state (r ∷ rs) (s ∷ ss) long at = (
  at 0 r (slice_get-get_or (r ∷ rs) 0 r (omega arith)) ∙ slice_get-get_or (s ∷ ss) 0 s (omega arith),
  these state rs ss (omega arith) (λ i q e.
      let lt : i < length rs = slice_get_within rs i q e in
      at (suc i) q (later_is r rs i q e) ∙ later_same s ss i (omega arith)),
)

sets_long : (labels : Labels) (rs : List RelationLabel) (sets : List TupleList) → AreSets labels rs sets → length sets ≡ length rs
sets_long labels [] [] are = refl
sets_long labels [] (s ∷ ss) are = absurd are
sets_long labels (r ∷ rs) [] are = absurd are
sets_long labels (r ∷ rs) (s ∷ ss) are = ap suc (sets_long labels rs ss are.1)

orders_within : (rs : List RelationLabel) → ArePlaced rs → (p : ℕ) → p < length rs → order_of rs p < length rs
orders_within rs placed p lt = let found = placed p lt in first_of rs p found.0 found.1 found.2

-- labels under which there are lassos, each with one place for a relation
pub record Allow (labels : Labels) : Type 0 where
  pub lines : HasLines labels
  pub once : AreOnce labels.relations
  pub within : AllByRecursion (λ (r : RelationLabel). r.place < length labels.relations) labels.relations
  pub given : AreGiven labels labels.relations

place_within : (P : RelationLabel → Type 0) (rs : List RelationLabel) (i : ℕ) (r : RelationLabel) → AllByRecursion P rs → slice_get rs i ≡ Some r → P r
place_within P rs i r each e = subst P (get_or_from_slice_get rs i r r e) (nth rs i r each (slice_get_within rs i r e))
  where
    nth : (xs : List RelationLabel) (k : ℕ) (d : RelationLabel) → AllByRecursion P xs → k < length xs → P (get_or xs k d)
    nth [] k d each h = absurd (omega arith)
    nth (x ∷ xs) zero d each h = each.0
    nth (x ∷ xs) (suc k) d each h = nth xs k d each.1 (omega arith)

abbrev pub state_of : Labels → List TupleList → List TupleList
state_of labels sets = arranged (orders_of labels.relations) sets

state_these : (labels : Labels) → Allow labels → (sets : List TupleList) → AreSets labels labels.relations sets → HasThese (state_of labels sets) labels.relations sets
state_these labels allow sets are =
    let long : length sets ≡ length labels.relations = sets_long labels labels.relations sets are in
    let all = arranged_at labels.relations sets (length labels.relations) (omega arith) (λ p lt. subst (λ n. order_of labels.relations p < n) (sym long) (orders_within labels.relations allow.lines.form.places p lt)) in
    these (state_of labels sets) labels.relations sets long (λ i r e.
    all.at r.place (place_within (λ (q : RelationLabel). q.place < length labels.relations) labels.relations i r allow.within e)
    ∙ ap (slice_get sets) (order_is labels.relations allow.once i r e))

-- ---- the text of a lasso

states_joined : (labels : Labels) → Allow labels → (i : ℕ) (all : List (List TupleList)) → AllByRecursion (AreSets labels labels.relations) all → from_text labels i (each_state labels all) ≡ joined (states_lines labels i all)
states_joined labels allow i [] are = refl
states_joined labels allow i (sets ∷ all) are =
    ap (λ t. ((codes "state " ++ decimal i ++ codes "\n") ++ t) ++ from_text labels (suc i) (each_state labels all)) (relations_joined labels.atoms (state_of labels sets) labels.relations sets (state_these labels allow sets are.0))
    ∙ ap (λ t. joined (state_lines labels i sets) ++ t) (states_joined labels allow (suc i) all are.1)
    ∙ sym (joined_both (state_lines labels i sets) (states_lines labels (suc i) all))

abbrev pub lasso_of : (labels : Labels) → Values labels → LassoValue
lasso_of labels v = record { states = each_state labels v.all; loop_start = v.start }

states_count : (labels : Labels) (v : Values labels) → length (each_state labels v.all) ≡ v.count
states_count labels v = length-map v.all (arranged (orders_of labels.relations)) ∙ v.long

text_joined : (labels : Labels) → Allow labels → (v : Values labels) → trace_text labels (lasso_of labels v) ≡ joined (all_lines labels v)
text_joined labels allow v =
    let states : List (List TupleList) = each_state labels v.all in
    let body : states_text labels states (length states) ≡ joined (states_lines labels 0 v.all) = whole_text labels states ∙ states_joined labels allow 0 v.all v.are in
    append_assoc (header_text (length states) v.start) (states_text labels states (length states)) (codes "end\n")
    ∙ ap (λ n. header_text n v.start ++ (states_text labels states (length states) ++ codes "end\n")) (states_count labels v)
    ∙ ap (λ t. header_text v.count v.start ++ (t ++ codes "end\n")) body
    ∙ ap (λ t. header_text v.count v.start ++ t) (sym (joined_both (states_lines labels 0 v.all) (codes "end" ∷ [])))

-- ---- no line has a feed

no_feed_in_both : (xs ys : List ℕ) → list_any is_feed xs ≡ false → list_any is_feed ys ≡ false → list_any is_feed (xs ++ ys) ≡ false
no_feed_in_both xs ys e f = list_any-append is_feed xs ys ∙ or_from (list_any is_feed xs) (list_any is_feed ys) e f

digit_no_feed : (d : ℕ) → d < 10 → is_feed (48 + d) ≡ false
digit_no_feed d h = ne_eqb (48 + d) 10 (λ e. absurd (omega arith))

all_both : (P : List ℕ → Type 0) (xs ys : List (List ℕ)) → AllByRecursion P xs → AllByRecursion P ys → AllByRecursion P (xs ++ ys)
all_both P [] ys a b = b
all_both P (x ∷ xs) ys a b = (a.0, all_both P xs ys a.1 b)

shown_none : (labels : Labels) → HasLines labels → (r : RelationLabel) (shown : Shown) (set : TupleList) → HasNoFeed r.label → IsSet labels r set → AllByRecursion HasNoFeed (shown_lines labels.atoms r shown set)
shown_none labels lines r Line set none is =
    (no_feed_in_both (r.label ++ codes " =") (tuples_text labels.atoms set.tuples) (no_feed_in_both r.label (codes " =") none refl) (tuples_feed labels.atoms (recursion_from_All HasNoFeed labels.atoms lines.texts) r.columns set.tuples is.tuples), tt)
shown_none labels lines r Nothing set none is = tt
shown_none labels lines r (Just a) set none is = tt

relations_none : (labels : Labels) → HasLines labels → (rs : List RelationLabel) (sets : List TupleList) → AllByRecursion (λ (r : RelationLabel). HasNoFeed r.label) rs → AreSets labels rs sets → AllByRecursion HasNoFeed (rel_lines labels.atoms rs sets)
relations_none labels lines [] sets none are = tt
relations_none labels lines (r ∷ rs) [] none are = tt
relations_none labels lines (r ∷ rs) (s ∷ ss) none are =
    all_both HasNoFeed (shown_lines labels.atoms r r.shown s) (rel_lines labels.atoms rs ss) (shown_none labels lines r r.shown s none.0 are.0) (relations_none labels lines rs ss none.1 are.1)

states_none : (labels : Labels) → HasLines labels → (i : ℕ) (all : List (List TupleList)) → i + length all < 2 ^ 32 → AllByRecursion (AreSets labels labels.relations) all → AllByRecursion HasNoFeed (states_lines labels i all)
states_none labels lines i [] few are = tt
states_none labels lines i (sets ∷ all) few are =
    all_both HasNoFeed (state_lines labels i sets) (states_lines labels (suc i) all)
    (no_feed_in_both (codes "state ") (decimal i) refl (none_in_decimal is_feed i digit_no_feed (omega arith)), relations_none labels lines labels.relations sets (recursion_from_All (λ (r : RelationLabel). HasNoFeed r.label) labels.relations lines.names) are.0)
    (states_none labels lines (suc i) all (omega arith) are.1)

all_none : (labels : Labels) → HasLines labels → (v : Values labels) → AllByRecursion HasNoFeed (all_lines labels v)
all_none labels lines v =
    let few : v.count ≤ 4294967295 = v.few in
    let less : v.start < v.count = v.less in
    let long : length v.all ≡ v.count = v.long in (
      header_feeds v.count v.start (omega arith) (omega arith),
      all_both HasNoFeed (states_lines labels 0 v.all) (codes "end" ∷ []) (states_none labels lines 0 v.all (omega arith) v.are) (refl, tt),
    )

pub text_parts : (labels : Labels) → Allow labels → (v : Values labels) → parts (trace_text labels (lasso_of labels v)) ≡ all_lines labels v ++ [] ∷ []
text_parts labels allow v = ap parts (text_joined labels allow v) ∙ parts_joined (all_lines labels v) (all_none labels allow.lines v)

-- ---- tuples that come one after the other are in order

less_from : (o : Ordering) → is_less o ≡ true → o ≡ Less
less_from Less e = refl
less_from Equal e = cc
less_from Greater e = cc

all_push : (P : List ℕ → Type 0) (xs : List (List ℕ)) (t : List ℕ) → AllByRecursion P xs → P t → AllByRecursion P (xs ++ t ∷ [])
all_push P [] t all h = (h, tt)
all_push P (x ∷ xs) t all h = (all.0, all_push P xs t all.1 h)

nth_tuple : (P : List ℕ → Type 0) (zs : List (List ℕ)) (k : ℕ) → AllByRecursion P zs → k < length zs → P (get_or zs k [])
nth_tuple P [] k each lt = absurd (omega arith)
nth_tuple P (z ∷ zs) zero each lt = each.0
nth_tuple P (z ∷ zs) (suc k) each lt = nth_tuple P zs k each.1 (omega arith)

last_below : (x : List ℕ) (xs : List (List ℕ)) (t : List ℕ) → AllByRecursion (λ y. tuple_cmp x y ≡ Less) xs → tuple_cmp (get_or (x ∷ xs) (length xs) []) t ≡ Less → tuple_cmp x t ≡ Less
last_below x [] t all h = h
last_below x (y ∷ ys) t all h = nat_list_cmp_total.trans x (get_or (y ∷ ys) (length ys) []) t (nth_tuple (λ z. tuple_cmp x z ≡ Less) (y ∷ ys) (length ys) all (omega arith)) h

sorted_push : (xs : List (List ℕ)) (t : List ℕ) → IsStrictlySortedBy tuple_cmp xs → (0 < length xs → tuple_cmp (get_or xs (length xs - 1) []) t ≡ Less) → IsStrictlySortedBy tuple_cmp (xs ++ t ∷ [])
unfolding IsStrictlySortedBy
sorted_push [] t s last = (tt, tt)
sorted_push (x ∷ []) t s last = ((last (omega arith), tt), (tt, tt))
sorted_push (x ∷ y ∷ ys) t s last =
    let same : suc (suc (length ys)) - 1 ≡ suc (length ys) = omega arith in
    let end : tuple_cmp (get_or (y ∷ ys) (length ys) []) t ≡ Less = ap (λ i. tuple_cmp (get_or (x ∷ y ∷ ys) i []) t) (sym same) ∙ last (omega arith) in
    let inner : suc (length ys) - 1 ≡ length ys = omega arith in
    (all_push (λ z. tuple_cmp x z ≡ Less) (y ∷ ys) t s.0 (last_below x (y ∷ ys) t s.0 end), sorted_push (y ∷ ys) t s.1 (λ some. ap (λ i. tuple_cmp (get_or (y ∷ ys) i []) t) inner ∙ end))

after_last : (xs : List (List ℕ)) (t : List ℕ) → comes_after xs t ≡ true → 0 < length xs → tuple_cmp (get_or xs (length xs - 1) []) t ≡ Less
after_last xs t e some =
    let none : eqb (length xs) 0 ≡ false = ne_eqb (length xs) 0 (λ z. absurd (omega arith)) in
    less_from (tuple_cmp (get_or xs (length xs - 1) []) t) (sym (ap (λ b. b || is_less (tuple_cmp (get_or xs (length xs - 1) []) t)) none) ∙ e)

sorted_from : (before ts : List (List ℕ)) → IsStrictlySortedBy tuple_cmp before → ComeAfter before ts → IsStrictlySortedBy tuple_cmp (before ++ ts)
sorted_from before [] s after = subst (IsStrictlySortedBy tuple_cmp) (sym (append-nil before)) s
sorted_from before (t ∷ ts) s after =
    subst (IsStrictlySortedBy tuple_cmp) (append_assoc before (t ∷ []) ts) (sorted_from (before ++ t ∷ []) ts (sorted_push before t s (after_last before t after.0)) after.1)

sorted_nil : IsStrictlySortedBy tuple_cmp []
unfolding IsStrictlySortedBy
sorted_nil = tt

-- ---- what was read fits

both_are : (a b : Bool) → (a && b) ≡ true → (a ≡ true) × (b ≡ true)
both_are true b e = (refl, e)
both_are false b e = cc

lengths_of : (atoms : List (List ℕ)) (columns : ℕ) (ts : List (List ℕ)) → AllByRecursion (IsTuple atoms columns) ts → AllByRecursion (λ t. length t ≡ columns) ts
lengths_of atoms columns [] each = tt
lengths_of atoms columns (t ∷ ts) each = (each.0.count, lengths_of atoms columns ts each.1)

within_of : (atoms : List (List ℕ)) (t : List ℕ) → AllByRecursion (IsPlace atoms) t → AllByRecursion (λ a. a < length atoms) t
within_of atoms [] each = tt
within_of atoms (a ∷ t) each = (each.0.within, within_of atoms t each.1)

small_of : (atoms : List (List ℕ)) (t : List ℕ) → AllByRecursion (IsPlace atoms) t → AllByRecursion IsNumber t
small_of atoms [] each = tt
small_of atoms (a ∷ t) each = (each.0.small, small_of atoms t each.1)

numbers_of : (atoms : List (List ℕ)) (columns : ℕ) (ts : List (List ℕ)) → AllByRecursion (IsTuple atoms columns) ts → AllByRecursion (All (λ a. a < length atoms)) ts
numbers_of atoms columns [] each = tt
numbers_of atoms columns (t ∷ ts) each = (All-from_recursion (λ a. a < length atoms) t (within_of atoms t each.0.places), numbers_of atoms columns ts each.1)

smalls_of : (atoms : List (List ℕ)) (columns : ℕ) (ts : List (List ℕ)) → AllByRecursion (IsTuple atoms columns) ts → AllByRecursion (λ t. All IsNumber t) ts
smalls_of atoms columns [] each = tt
smalls_of atoms columns (t ∷ ts) each = (All-from_recursion IsNumber t (small_of atoms t each.0.places), smalls_of atoms columns ts each.1)

set_fits : (labels : Labels) (r : RelationLabel) (set : TupleList) → IsSet labels r set → IsTupleSet set
set_fits labels r set is =
    let range = both_are (nat_le 1 r.columns) (nat_le r.columns 9) is.width in
    let low : 1 ≤ r.columns = leb-true 1 r.columns range.0 in
    let high : r.columns ≤ 9 = leb-true r.columns 9 range.1 in
    record {
      least = subst (λ n. 1 ≤ n) (sym is.columns) low;
      most = subst (λ n. n ≤ 9) (sym is.columns) high;
      columns = All-from_recursion (λ t. length t ≡ set.arity) set.tuples (subst (λ n. AllByRecursion (λ t. length t ≡ n) set.tuples) (sym is.columns) (lengths_of labels.atoms r.columns set.tuples is.tuples));
      numbers = All-from_recursion (λ t. All IsNumber t) set.tuples (smalls_of labels.atoms r.columns set.tuples is.tuples);
      sorted = sorted_from [] set.tuples sorted_nil is.order;
    }

sets_fit : (labels : Labels) (rs : List RelationLabel) (sets : List TupleList) → AreSets labels rs sets → AllByRecursion IsTupleSet sets
sets_fit labels [] [] are = tt
sets_fit labels [] (s ∷ ss) are = absurd are
sets_fit labels (r ∷ rs) [] are = absurd are
sets_fit labels (r ∷ rs) (s ∷ ss) are = (set_fits labels r s are.0, sets_fit labels rs ss are.1)

hidden_fits : (shown : Shown) (set : TupleList) → HoldsTuples shown set.tuples → HoldsHidden shown set
hidden_fits Line set h = tt
hidden_fits Nothing set h = h
hidden_fits (Just a) set h = h

relations_fit : (labels : Labels) (state : List TupleList) (rs : List RelationLabel) (sets : List TupleList) → HasThese state rs sets → AreSets labels rs sets → AllByRecursion (FitsRelation labels state) rs
relations_fit labels state [] sets has are = tt
relations_fit labels state (r ∷ rs) [] has are = absurd has
relations_fit labels state (r ∷ rs) (s ∷ ss) has are = (
  record {
    set = s;
    there = has.0;
    columns = are.0.columns;
    lengths = All-from_recursion (λ t. length t ≡ r.columns) s.tuples (lengths_of labels.atoms r.columns s.tuples are.0.tuples);
    numbers = All-from_recursion (All (λ a. a < length labels.atoms)) s.tuples (numbers_of labels.atoms r.columns s.tuples are.0.tuples);
    hidden = hidden_fits r.shown s are.0.holds;
  },
  relations_fit labels state rs ss has.1 are.1,
)

one_fits : (sets : List TupleList) → AllByRecursion IsTupleSet sets → (o : Option TupleList) (k : ℕ) → slice_get sets k ≡ o → AllByRecursion IsTupleSet (one_set o)
one_fits sets each None k e = tt
one_fits sets each (Some s) k e = (subst IsTupleSet (get_or_from_slice_get sets k s s e) (nth sets k s each (slice_get_within sets k s e)), tt)
  where
    nth : (xs : List TupleList) (k : ℕ) (d : TupleList) → AllByRecursion IsTupleSet xs → k < length xs → IsTupleSet (get_or xs k d)
    nth [] k d each h = absurd (omega arith)
    nth (x ∷ xs) zero d each h = each.0
    nth (x ∷ xs) (suc k) d each h = nth xs k d each.1 (omega arith)

both_fit : (xs ys : List TupleList) → AllByRecursion IsTupleSet xs → AllByRecursion IsTupleSet ys → AllByRecursion IsTupleSet (xs ++ ys)
both_fit [] ys a b = b
both_fit (x ∷ xs) ys a b = (a.0, both_fit xs ys a.1 b)

arranged_fit : (orders : List ℕ) (sets : List TupleList) → AllByRecursion IsTupleSet sets → AllByRecursion IsTupleSet (arranged orders sets)
arranged_fit [] sets each = tt
arranged_fit (o ∷ orders) sets each = both_fit (one_set (slice_get sets o)) (arranged orders sets) (one_fits sets each (slice_get sets o) o refl) (arranged_fit orders sets each)

states_fit : (labels : Labels) → Allow labels → (all : List (List TupleList)) → AllByRecursion (AreSets labels labels.relations) all → AllByRecursion (FitsState labels) (each_state labels all)
states_fit labels allow [] are = tt
states_fit labels allow (sets ∷ all) are =
    let long : length sets ≡ length labels.relations = sets_long labels labels.relations sets are.0 in
    let these_sets = arranged_at labels.relations sets (length labels.relations) (omega arith) (λ p lt. subst (λ n. order_of labels.relations p < n) (sym long) (orders_within labels.relations allow.lines.form.places p lt)) in (
      record {
        count = these_sets.long;
        relations = All-from_recursion (FitsRelation labels (state_of labels sets)) labels.relations (relations_fit labels (state_of labels sets) labels.relations sets (state_these labels allow sets are.0) are.0);
      },
      states_fit labels allow all are.1,
    )

states_sets : (labels : Labels) (all : List (List TupleList)) → AllByRecursion (AreSets labels labels.relations) all → AllByRecursion (λ state. All IsTupleSet state) (each_state labels all)
states_sets labels [] are = tt
states_sets labels (sets ∷ all) are =
    (All-from_recursion IsTupleSet (state_of labels sets) (arranged_fit (orders_of labels.relations) sets (sets_fit labels labels.relations sets are.0)), states_sets labels all are.1)

pub values_fit : (labels : Labels) → Allow labels → (v : Values labels) → IsLassoOf labels (lasso_of labels v)
values_fit labels allow v =
    let few : v.count ≤ 4294967295 = v.few in
    let less : v.start < v.count = v.less in
    let count : length (each_state labels v.all) ≡ v.count = states_count labels v in
    record {
      fits = record {
        states = All-from_recursion (FitsState labels) (each_state labels v.all) (states_fit labels allow v.all v.are);
        count = omega arith;
        loop_start = omega arith;
      };
      sets = All-from_recursion (λ state. All IsTupleSet state) (each_state labels v.all) (states_sets labels v.all v.are);
      start = omega arith;
    }

-- ---- the first line that is none of a trace

one_more : (xs : List (List ℕ)) → 1 ≤ length (xs ++ [] ∷ [])
one_more xs = let long : length (xs ++ [] ∷ []) ≡ length xs + 1 = length-append xs ([] ∷ []) in omega arith

pub begins_text : (labels : Labels) → Allow labels → (text : List ℕ) (v : Values labels) (k : ℕ) (s : Sticks 0 k (parts text) (all_lines labels v)) → 1 ≤ length (parts text) → AgreeTo (length s.taken) (trace_text labels (lasso_of labels v)) text
begins_text labels allow text v k s some =
    let whole : parts (trace_text labels (lasso_of labels v)) ≡ s.taken ++ (s.left ++ [] ∷ []) = text_parts labels allow v ∙ ap (λ ls. ls ++ [] ∷ []) s.begins ∙ append_assoc s.taken s.left ([] ∷ []) in
    ap (λ ls. take (length s.taken) (ended ls)) whole
    ∙ take_ended s.taken (s.left ++ [] ∷ []) (one_more s.left)
    ∙ sym (take_ended s.taken s.rest (s.some some))
    ∙ ap (λ ls. take (length s.taken) (ended ls)) (sym s.are)

pub first_fault : (labels : Labels) → Allow labels → (text : List ℕ) (k : ℕ) → 1 ≤ length (parts text) → trace_way labels text ≡ off k → ((lasso : LassoValue) → IsLassoOf labels lasso → AgreeTo k (trace_text labels lasso) text → ⊥) → IsFirstFault labels text k
first_fault labels allow text k some e none =
    let found = lines_off labels allow.given (parts text) k e in
    let sticks : Sticks 0 k (parts text) (all_lines labels found.values) = found.sticks in
    let count : k ≡ suc (0 + length sticks.taken) = sticks.count in
    record {
      before = length sticks.taken;
      number = omega arith;
      begun = lasso_of labels found.values;
      fits = values_fit labels allow found.values;
      agrees = begins_text labels allow text found.values k sticks some;
      none = none;
    }

-- ---- labels under which there are lassos

both_true : (a b : Bool) → a ≡ true → b ≡ true → (a && b) ≡ true
both_true true b e f = f
both_true false b e f = cc

width_of : (columns : ℕ) → (1 ≤ columns) × (columns ≤ 9) → is_width columns ≡ true
width_of columns range = both_true (nat_le 1 columns) (nat_le columns 9) (le-leb 1 columns range.0) (le-leb columns 9 range.1)

one_tuple : (labels : Labels) (columns a : ℕ) → HasAtom labels columns (Just a) → IsTuple labels.atoms columns (a ∷ [])
one_tuple labels columns a has = record { count = sym has.0; places = (record { within = has.1; small = has.2 }, tt) }

given_of : (labels : Labels) (r : RelationLabel) (shown : Shown) → r.shown ≡ shown → (1 ≤ r.columns) × (r.columns ≤ 9) → HasAtom labels r.columns shown → IsGiven labels r shown × HasSome labels r
given_of labels r Line is range has =
    (tt, (set_with r.columns [], record { columns = refl; width = width_of r.columns range; tuples = tt; order = tt; holds = subst (λ (s : Shown). HoldsTuples s []) (sym is) tt }))
given_of labels r Nothing is range has =
    (width_of r.columns range, (set_with r.columns [], record { columns = refl; width = width_of r.columns range; tuples = tt; order = tt; holds = subst (λ (s : Shown). HoldsTuples s []) (sym is) refl }))
given_of labels r (Just a) is range has =
    let tuple : IsTuple labels.atoms r.columns (a ∷ []) = one_tuple labels r.columns a has in (
      (width_of r.columns range, tuple, both_true (eqb r.columns 1) (nat_lt a 16384) (eq-eqb r.columns 1 has.0) (lt-ltb a 16384 has.2)),
      (set_with r.columns ((a ∷ []) ∷ []), record { columns = refl; width = width_of r.columns range; tuples = (tuple, tt); order = (refl, tt); holds = subst (λ (s : Shown). HoldsTuples s ((a ∷ []) ∷ [])) (sym is) refl }),
    )

all_given : (labels : Labels) (rs : List RelationLabel) → AllByRecursion (λ (r : RelationLabel). (1 ≤ r.columns) × (r.columns ≤ 9)) rs → AllByRecursion (λ (r : RelationLabel). HasAtom labels r.columns r.shown) rs → AreGiven labels rs
all_given labels [] ranges has = tt
all_given labels (r ∷ rs) ranges has = (given_of labels r r.shown refl ranges.0 has.0, all_given labels rs ranges.1 has.1)

pub allow_of : (labels : Labels) → HaveLassos labels → Allow labels
allow_of labels have = record {
  lines = have.lines;
  once = have.once;
  within = recursion_from_All (λ (r : RelationLabel). r.place < length labels.relations) labels.relations have.within;
  given = all_given labels labels.relations
      (recursion_from_All (λ (r : RelationLabel). (1 ≤ r.columns) × (r.columns ≤ 9)) labels.relations have.columns)
      (recursion_from_All (λ (r : RelationLabel). HasAtom labels r.columns r.shown) labels.relations have.hidden);
}

pub some_lines : (text : List ℕ) → 1 ≤ length (parts text)
some_lines text = omega (arith, length-slice_split is_feed text)
