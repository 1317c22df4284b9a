-- A lasso that fits labels of a right form has what its reading takes.
use Rattle.std.proofs.Common.{◌≡◌, ℕ, zero, suc, ◌+◌, ◌-◌, ◌<◌, ◌≤◌, Bool, true, false, ◌&&◌, ◌||◌, eqb, eq-eqb, List, [], ◌∷◌, ◌++◌, length, get_or, codes, nat_lt, nat_le, All, Some, slice_get, refl, sym, ap, ◌∙◌, arith, append_assoc, subst}
use Rattle.std.specs.List.{list_any, AllByRecursion}
use Rattle.std.specs.List.Sorted.{IsStrictlySortedBy}
use Rattle.std.specs.declared.cmp.Ordering.{Ordering}
use Rattle.std.specs.declared.cmp.Ordering.TheVariants.{Less}
use Rattle.std.proofs.lemmas.Bool.{le-leb, lt-ltb, or_parts, or_from}
use Rattle.std.proofs.lemmas.List.{get_or_append_left, get_or_at, length-append}
use Rattle.std.proofs.lemmas.List.Elements.{recursion_from_All}
use Rattle.std.proofs.lemmas.List.Folds.{list_any-append}
use Rattle.std.proofs.lemmas.Option.{get_or_from_slice_get, slice_get_within}
use Rattle.std.proofs.lemmas.Map.Keys.{Less-from_sorted}
use Rattle.base_words.specs.Words.{is_feed}
use Rattle.core_tuples.specs.Index.{IsNumber}
use Rattle.core_tuples.specs.Sets.{TupleList, IsTupleSet, tuple_cmp}
use Rattle.core_meaning.specs.Sequence.{LassoValue}
use Rattle.answer_trace.specs.declared.label.Shown.{Shown}
use Rattle.answer_trace.specs.declared.label.Shown.TheVariants.{Line, Nothing, Just}
use Rattle.answer_trace.specs.declared.label.RelationLabel.{RelationLabel}
use Rattle.answer_trace.specs.declared.label.Labels.{Labels}
use Rattle.answer_trace.specs.Text.{atom_text, tuple_text, tuples_text}
use Rattle.answer_trace.specs.Reading as reading
use Rattle.answer_trace.specs.Reading.{is_less, comes_after, is_width}
use Rattle.answer_laws.specs.Form.{is_stop, IsAtomText, HasNoFeed, HasForm, HasLines, HoldsHidden, FitsRelation, FitsState, IsLassoOf}
use Rattle.answer_laws.specs.Form.IsAtomText.{quoted, plain}
use Rattle.answer_laws.proofs.Again.{IsAtom, AreAtoms, IsPlace, IsTuple, ComeAfter, arrows, commas}
use Rattle.answer_laws.proofs.Again.IsAtom.{quoted as quoted_atom, plain as plain_atom}
use Rattle.answer_laws.proofs.Whole.{HoldsTuples, HasSet, HasSets, HasStates, IsHidden}

-- ---- atoms

fewer_stops : (bytes : List ℕ) → list_any is_stop bytes ≡ false → list_any reading.is_stop bytes ≡ false
fewer_stops [] e = refl
fewer_stops (byte ∷ bytes) e =
    let both = or_parts (is_stop byte) (list_any is_stop bytes) e in
    let here = or_parts (eqb byte 45) (eqb byte 44 || eqb byte 10) both.0 in
    or_from (reading.is_stop byte) (list_any reading.is_stop bytes) (or_from (eqb byte 45) (eqb byte 44) here.0 (or_parts (eqb byte 44) (eqb byte 10) here.1).0) (fewer_stops bytes both.1)

atom_form : (t : List ℕ) → IsAtomText t → IsAtom t
atom_form _ (quoted body none) = quoted_atom body none
atom_form _ (plain byte bytes apart none) = plain_atom byte bytes apart (fewer_stops bytes none)

nth : (P : List ℕ → Type 0) (atoms : List (List ℕ)) (k : ℕ) → AllByRecursion P atoms → k < length atoms → P (atom_text atoms k)
nth P [] k each h = absurd (omega arith)
nth P (t ∷ ts) zero each h = each.0
nth P (t ∷ ts) (suc k) each h = nth P ts k each.1 (omega arith)

pub atoms_are : (labels : Labels) → HasForm labels → AreAtoms labels.atoms
atoms_are labels form = record {
  forms = λ a h. atom_form (atom_text labels.atoms a) (nth IsAtomText labels.atoms a (recursion_from_All IsAtomText labels.atoms form.atoms) h);
  distinct = form.distinct;
}

-- ---- no line feed in tuples

no_feed_in_both : (xs ys : List ℕ) → list_any is_feed xs ≡ false → list_any is_feed ys ≡ false → list_any is_feed (xs ++ ys) ≡ false
no_feed_in_both xs ys e f = list_any-append is_feed xs ys ∙ or_from (list_any is_feed xs) (list_any is_feed ys) e f

arrows_feed : (atoms : List (List ℕ)) → AllByRecursion HasNoFeed atoms → (t : List ℕ) → AllByRecursion (IsPlace atoms) t → list_any is_feed (arrows atoms t) ≡ false
arrows_feed atoms none [] each = refl
arrows_feed atoms none (a ∷ t) each =
    no_feed_in_both (codes "->" ++ atom_text atoms a) (arrows atoms t) (no_feed_in_both (codes "->") (atom_text atoms a) refl (nth HasNoFeed atoms a none each.0.within)) (arrows_feed atoms none t each.1)

tuple_feed : (atoms : List (List ℕ)) → AllByRecursion HasNoFeed atoms → (t : List ℕ) → AllByRecursion (IsPlace atoms) t → list_any is_feed (tuple_text atoms t) ≡ false
tuple_feed atoms none [] each = refl
tuple_feed atoms none (a ∷ t) each = no_feed_in_both (atom_text atoms a) (arrows atoms t) (nth HasNoFeed atoms a none each.0.within) (arrows_feed atoms none t each.1)

commas_feed : (atoms : List (List ℕ)) → AllByRecursion HasNoFeed atoms → (columns : ℕ) (ts : List (List ℕ)) → AllByRecursion (IsTuple atoms columns) ts → list_any is_feed (commas atoms ts) ≡ false
commas_feed atoms none columns [] each = refl
commas_feed atoms none columns (t ∷ ts) each =
    no_feed_in_both (codes ", " ++ tuple_text atoms t) (commas atoms ts) (no_feed_in_both (codes ", ") (tuple_text atoms t) refl (tuple_feed atoms none t each.0.places)) (commas_feed atoms none columns ts each.1)

pub tuples_feed : (atoms : List (List ℕ)) → AllByRecursion HasNoFeed atoms → (columns : ℕ) (ts : List (List ℕ)) → AllByRecursion (IsTuple atoms columns) ts → list_any is_feed (tuples_text atoms ts) ≡ false
tuples_feed atoms none columns [] each = refl
tuples_feed atoms none columns (t ∷ ts) each =
    no_feed_in_both (codes " " ++ tuple_text atoms t) (commas atoms ts) (no_feed_in_both (codes " ") (tuple_text atoms t) refl (tuple_feed atoms none t each.0.places)) (commas_feed atoms none columns ts each.1)

-- ---- tuples in order

less_is : (o : Ordering) → o ≡ Less → is_less o ≡ true
less_is o e = ap is_less e

or_right : (a b : Bool) → b ≡ true → (a || b) ≡ true
or_right true b e = refl
or_right false b e = e

come_after : (before ts : List (List ℕ)) → IsStrictlySortedBy tuple_cmp (before ++ ts) → ComeAfter before ts
come_after before [] sorted = tt
come_after before (t ∷ ts) sorted = (here before sorted, come_after (before ++ t ∷ []) ts (subst (IsStrictlySortedBy tuple_cmp) (sym (append_assoc before (t ∷ []) ts)) sorted))
  where
    here : (xs : List (List ℕ)) → IsStrictlySortedBy tuple_cmp (xs ++ t ∷ ts) → comes_after xs t ≡ true
    here [] s = refl
    here (x ∷ xs) s =
        let all : List (List ℕ) = (x ∷ xs) ++ t ∷ ts in
        let long : length all ≡ length (x ∷ xs) + length (t ∷ ts) = length-append (x ∷ xs) (t ∷ ts) in
        let less : tuple_cmp (get_or all (length xs) []) (get_or all (length (x ∷ xs)) []) ≡ Less = Less-from_sorted tuple_cmp all (length xs) (length (x ∷ xs)) [] s (omega arith) (omega arith) in
        let first : get_or all (length xs) [] ≡ get_or (x ∷ xs) (length xs) [] = get_or_append_left (x ∷ xs) (t ∷ ts) [] (length xs) (omega arith) in
        let second : get_or all (length (x ∷ xs)) [] ≡ t = get_or_at (x ∷ xs) t ts [] (length (x ∷ xs)) refl in
        let last : length (x ∷ xs) - 1 ≡ length xs = omega arith in
        let this : tuple_cmp (get_or (x ∷ xs) (length xs) []) t ≡ Less = ap (λ u. tuple_cmp u t) (sym first) ∙ ap (tuple_cmp (get_or all (length xs) [])) (sym second) ∙ less in
        or_right (eqb (length (x ∷ xs)) 0) (is_less (tuple_cmp (get_or (x ∷ xs) (length (x ∷ xs) - 1) []) t)) (ap (λ i. is_less (tuple_cmp (get_or (x ∷ xs) i []) t)) last ∙ less_is (tuple_cmp (get_or (x ∷ xs) (length xs) []) t) this)

-- ---- a relation

places_of : (atoms : List (List ℕ)) (t : List ℕ) → AllByRecursion (λ a. a < length atoms) t → AllByRecursion IsNumber t → AllByRecursion (IsPlace atoms) t
places_of atoms [] within small = tt
places_of atoms (a ∷ t) within small = (record { within = within.0; small = small.0 }, places_of atoms t within.1 small.1)

tuples_of : (atoms : List (List ℕ)) (columns : ℕ) (ts : List (List ℕ)) → AllByRecursion (λ t. length t ≡ columns) ts → AllByRecursion (All (λ a. a < length atoms)) ts → AllByRecursion (λ t. All IsNumber t) ts → AllByRecursion (IsTuple atoms columns) ts
tuples_of atoms columns [] lengths numbers small = tt
tuples_of atoms columns (t ∷ ts) lengths numbers small =
    (record { count = lengths.0; places = places_of atoms t (recursion_from_All (λ a. a < length atoms) t numbers.0) (recursion_from_All IsNumber t small.0) }, tuples_of atoms columns ts lengths.1 numbers.1 small.1)

width : (columns : ℕ) → 1 ≤ columns → columns ≤ 9 → is_width columns ≡ true
width columns low high = ap (λ b. b && nat_le columns 9) (le-leb 1 columns low) ∙ le-leb columns 9 high

both_true : (a b : Bool) → a ≡ true → b ≡ true → (a && b) ≡ true
both_true true b e f = f
both_true false b e f = cc

hidden_columns : (shown : Shown) (set : TupleList) (columns : ℕ) → HoldsHidden shown set → AllByRecursion (λ t. length t ≡ columns) set.tuples → AllByRecursion (λ t. All IsNumber t) set.tuples → IsHidden shown columns
hidden_columns Line set columns holds lengths numbers = tt
hidden_columns Nothing set columns holds lengths numbers = tt
hidden_columns (Just a) set columns holds lengths numbers =
    let long : 1 ≡ columns = (subst (AllByRecursion (λ t. length t ≡ columns)) holds lengths).0 in
    let small : a < 16384 = (recursion_from_All IsNumber (a ∷ []) (subst (AllByRecursion (λ t. All IsNumber t)) holds numbers).0).0 in
    both_true (eqb columns 1) (nat_lt a 16384) (eq-eqb columns 1 (sym long)) (lt-ltb a 16384 small)

hidden_tuples : (shown : Shown) (set : TupleList) → HoldsHidden shown set → HoldsTuples shown set.tuples
hidden_tuples Line set h = tt
hidden_tuples Nothing set h = h
hidden_tuples (Just a) set h = h

nth_set : (P : TupleList → Type 0) (xs : List TupleList) (k : ℕ) (d : TupleList) → AllByRecursion P xs → k < length xs → P (get_or xs k d)
nth_set P [] k d each h = absurd (omega arith)
nth_set P (x ∷ xs) zero d each h = each.0
nth_set P (x ∷ xs) (suc k) d each h = nth_set P xs k d each.1 (omega arith)

set_there : (state : List TupleList) (k : ℕ) (set : TupleList) → AllByRecursion IsTupleSet state → slice_get state k ≡ Some set → IsTupleSet set
set_there state k set each e = subst IsTupleSet (get_or_from_slice_get state k set set e) (nth_set IsTupleSet state k set each (slice_get_within state k set e))

relation_has : (labels : Labels) → HasLines labels → (state : List TupleList) → AllByRecursion IsTupleSet state → (r : RelationLabel) → HasNoFeed r.label → FitsRelation labels state r → HasSet labels state r
relation_has labels form state sets r none fits =
    let is : IsTupleSet fits.set = set_there state r.place fits.set sets fits.there in
    let lengths = recursion_from_All (λ t. length t ≡ r.columns) fits.set.tuples fits.lengths in
    let small = recursion_from_All (λ t. All IsNumber t) fits.set.tuples is.numbers in
    let tuples : AllByRecursion (IsTuple labels.atoms r.columns) fits.set.tuples = tuples_of labels.atoms r.columns fits.set.tuples lengths (recursion_from_All (All (λ a. a < length labels.atoms)) fits.set.tuples fits.numbers) small in
    let least : 1 ≤ r.columns = subst (λ n. 1 ≤ n) fits.columns is.least in
    let most : r.columns ≤ 9 = subst (λ n. n ≤ 9) fits.columns is.most in
    record {
      set = fits.set;
      there = fits.there;
      columns = fits.columns;
      width = width r.columns least most;
      some = least;
      tuples = tuples;
      order = come_after [] fits.set.tuples is.sorted;
      feeds = tuples_feed labels.atoms (recursion_from_All HasNoFeed labels.atoms form.texts) r.columns fits.set.tuples tuples;
      label = none;
      holds = hidden_tuples r.shown fits.set fits.hidden;
      hidden = hidden_columns r.shown fits.set r.columns fits.hidden lengths small;
    }

relations_have : (labels : Labels) → HasLines labels → (state : List TupleList) → AllByRecursion IsTupleSet state → (rs : List RelationLabel) → AllByRecursion (λ (r : RelationLabel). HasNoFeed r.label) rs → AllByRecursion (FitsRelation labels state) rs → AllByRecursion (HasSet labels state) rs
relations_have labels form state sets [] none fits = tt
relations_have labels form state sets (r ∷ rs) none fits = (relation_has labels form state sets r none.0 fits.0, relations_have labels form state sets rs none.1 fits.1)

states_have : (labels : Labels) → HasLines labels → (states : List (List TupleList)) → AllByRecursion (λ state. All IsTupleSet state) states → AllByRecursion (FitsState labels) states → AllByRecursion (HasSets labels) states
states_have labels form [] sets fits = tt
states_have labels form (state ∷ states) sets fits = (
  record {
    count = fits.0.count;
    each = relations_have labels form state (recursion_from_All IsTupleSet state sets.0) labels.relations (recursion_from_All (λ (r : RelationLabel). HasNoFeed r.label) labels.relations form.names) (recursion_from_All (FitsRelation labels state) labels.relations fits.0.relations);
  },
  states_have labels form states sets.1 fits.1,
)

pub lasso_has : (labels : Labels) → HasLines labels → (lasso : LassoValue) → IsLassoOf labels lasso → HasStates labels lasso
lasso_has labels form lasso is = record {
  few = is.fits.count;
  less = is.start;
  each = states_have labels form lasso.states (recursion_from_All (λ state. All IsTupleSet state) lasso.states is.sets) (recursion_from_All (FitsState labels) lasso.states is.fits.states);
}
