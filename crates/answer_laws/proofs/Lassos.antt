-- A lasso is told by its text.
use Rattle.std.proofs.Common.{◌≡◌, ℕ, zero, suc, ◌<◌, ◌≤◌, ◌^◌, List, [], ◌∷◌, ◌++◌, length, flat_map, codes, decimal, Some, Contains, get_or, take, take-suc, refl, sym, ap, ◌∙◌, arith, append_assoc}
use Rattle.std.specs.List.{All, AllByRecursion, slice_get}
use Rattle.std.proofs.lemmas.List.{append_cancel_left, ext_get_or, take_all}
use Rattle.std.proofs.lemmas.List.Elements.{recursion_from_All, All-from_recursion, All-contains}
use Rattle.std.proofs.lemmas.Option.{slice_get-get_or}
use Rattle.core_tuples.specs.Sets.{TupleList}
use Rattle.core_meaning.specs.Sequence.{LassoValue}
use Rattle.answer_trace.specs.declared.label.Shown.{Shown}
use Rattle.answer_trace.specs.declared.label.Shown.TheVariants.{Line, Nothing, Just}
use Rattle.answer_trace.specs.declared.label.RelationLabel.{RelationLabel}
use Rattle.answer_trace.specs.declared.label.Labels.{Labels}
use Rattle.answer_trace.specs.Text.{atom_text, tuples_text, set_text, shown_text, relation_text, state_text, nth_state_text, header_text, states_text, trace_text}
use Rattle.answer_laws.specs.Form.{IsAtomText, HasForm, HoldsHidden, FitsRelation, FitsState, FitsLabels}
use Rattle.answer_laws.proofs.Apart.{numbers_apart, blank_is_no_digit, feed_is_no_digit}
use Rattle.answer_laws.proofs.Sets.{AreApart, AreNumbers, AreTuples, tuples_apart}

-- ---- a relation

numbers_of : (atoms : List (List ℕ)) (t : List ℕ) → All (λ a. a < length atoms) t → AreNumbers atoms t
numbers_of atoms t each = recursion_from_All (λ a. a < length atoms) t each

tuples_of : (labels : Labels) (columns : ℕ) (ts : List (List ℕ)) → AllByRecursion (λ t. length t ≡ columns) ts → AllByRecursion (All (λ a. a < length labels.atoms)) ts → AreTuples labels.atoms columns ts
tuples_of labels columns [] lengths numbers = tt
tuples_of labels columns (t ∷ ts) lengths numbers = ((lengths.0, numbers_of labels.atoms t numbers.0), tuples_of labels columns ts lengths.1 numbers.1)

same_set : (a b : TupleList) → a.arity ≡ b.arity → a.tuples ≡ b.tuples → a ≡ b
same_set a b columns tuples =
    let made : ℕ → List (List ℕ) → TupleList = λ n ts. record { arity = n; tuples = ts } in
    ap (λ n. made n a.tuples) columns ∙ ap (made b.arity) tuples

-- the set of a relation, and what stands behind its line
relation_apart : (labels : Labels) → AreApart labels.atoms → (r : RelationLabel) (a b : List TupleList) (x y : List ℕ) → FitsRelation labels a r → FitsRelation labels b r → relation_text labels.atoms a r ++ x ≡ relation_text labels.atoms b r ++ y → (slice_get a r.place ≡ slice_get b r.place) × (x ≡ y)
relation_apart labels apart r a b x y fits other e =
    let columns : fits.set.arity ≡ other.set.arity = fits.columns ∙ sym other.columns in
    let found = by_shown r.shown fits.hidden other.hidden (sym (ap (λ o. shown_text r.shown (r.label ++ codes " =" ++ set_text labels.atoms o ++ codes "\n") ++ x) fits.there) ∙ e ∙ ap (λ o. shown_text r.shown (r.label ++ codes " =" ++ set_text labels.atoms o ++ codes "\n") ++ y) other.there) in
    (fits.there ∙ ap Some (same_set fits.set other.set columns found.0) ∙ sym other.there, found.1)
  where
    line : List (List ℕ) → List ℕ
    line ts = r.label ++ codes " =" ++ tuples_text labels.atoms ts ++ codes "\n"

    split : (ts : List (List ℕ)) (z : List ℕ) → line ts ++ z ≡ r.label ++ 32 ∷ 61 ∷ (tuples_text labels.atoms ts ++ 10 ∷ z)
    split ts z =
        append_assoc (r.label ++ codes " =" ++ tuples_text labels.atoms ts) (codes "\n") z
        ∙ append_assoc (r.label ++ codes " =") (tuples_text labels.atoms ts) (10 ∷ z)
        ∙ append_assoc r.label (codes " =") (tuples_text labels.atoms ts ++ 10 ∷ z)

    given : (set : TupleList) → All (λ t. length t ≡ r.columns) set.tuples → All (All (λ n. n < length labels.atoms)) set.tuples → AreTuples labels.atoms r.columns set.tuples
    given set lengths numbers = tuples_of labels r.columns set.tuples (recursion_from_All (λ t. length t ≡ r.columns) set.tuples lengths) (recursion_from_All (All (λ n. n < length labels.atoms)) set.tuples numbers)

    by_shown : (shown : Shown) → HoldsHidden shown fits.set → HoldsHidden shown other.set → shown_text shown (line fits.set.tuples) ++ x ≡ shown_text shown (line other.set.tuples) ++ y → (fits.set.tuples ≡ other.set.tuples) × (x ≡ y)
    by_shown Line here there e =
        let rest : r.label ++ 32 ∷ 61 ∷ (tuples_text labels.atoms fits.set.tuples ++ 10 ∷ x) ≡ r.label ++ 32 ∷ 61 ∷ (tuples_text labels.atoms other.set.tuples ++ 10 ∷ y) = sym (split fits.set.tuples x) ∙ e ∙ split other.set.tuples y in
        let behind : 32 ∷ 61 ∷ (tuples_text labels.atoms fits.set.tuples ++ 10 ∷ x) ≡ 32 ∷ 61 ∷ (tuples_text labels.atoms other.set.tuples ++ 10 ∷ y) = append_cancel_left r.label _ _ rest in
        let inner : tuples_text labels.atoms fits.set.tuples ++ 10 ∷ x ≡ tuples_text labels.atoms other.set.tuples ++ 10 ∷ y = cc in
        tuples_apart labels.atoms apart r.columns fits.set.tuples other.set.tuples x y (given fits.set fits.lengths fits.numbers) (given other.set other.lengths other.numbers) inner
    by_shown Nothing here there e = (here ∙ sym there, e)
    by_shown (Just n) here there e = (here ∙ sym there, e)

-- ---- a state

relations_apart : (labels : Labels) → AreApart labels.atoms → (rs : List RelationLabel) (a b : List TupleList) (x y : List ℕ) → AllByRecursion (FitsRelation labels a) rs → AllByRecursion (FitsRelation labels b) rs → flat_map (relation_text labels.atoms a) rs ++ x ≡ flat_map (relation_text labels.atoms b) rs ++ y → AllByRecursion (λ (r : RelationLabel). slice_get a r.place ≡ slice_get b r.place) rs × (x ≡ y)
relations_apart labels apart [] a b x y fits other e = (tt, e)
relations_apart labels apart (r ∷ rs) a b x y fits other e =
    let rest = sym (append_assoc (relation_text labels.atoms a r) (flat_map (relation_text labels.atoms a) rs) x) ∙ e ∙ append_assoc (relation_text labels.atoms b r) (flat_map (relation_text labels.atoms b) rs) y in
    let found = relation_apart labels apart r a b (flat_map (relation_text labels.atoms a) rs ++ x) (flat_map (relation_text labels.atoms b) rs ++ y) fits.0 other.0 rest in
    let more = relations_apart labels apart rs a b x y fits.1 other.1 found.1 in
    ((found.0, more.0), more.1)

at_member : (P : RelationLabel → Type 0) (rs : List RelationLabel) (r : RelationLabel) → AllByRecursion P rs → Contains rs r → P r
at_member P rs r each there = All-contains P rs r (All-from_recursion P rs each) there

no_set : TupleList
no_set = record { arity = 0; tuples = [] }

-- two lists with the same at a place inside have the same there
same_at : {A : Type 0} (d : A) (xs ys : List A) (k : ℕ) → k < length xs → k < length ys → slice_get xs k ≡ slice_get ys k → get_or xs k d ≡ get_or ys k d
same_at d xs ys k inside within e =
    let both : Some (get_or xs k d) ≡ Some (get_or ys k d) = sym (slice_get-get_or xs k d inside) ∙ e ∙ slice_get-get_or ys k d within in
    cc

state_split : (labels : Labels) (i : ℕ) (state : List TupleList) (z : List ℕ)
    → state_text labels i state ++ z ≡ (codes "state " ++ decimal i ++ codes "\n") ++ (flat_map (relation_text labels.atoms state) labels.relations ++ z)
state_split labels i state z = append_assoc (codes "state " ++ decimal i ++ codes "\n") (flat_map (relation_text labels.atoms state) labels.relations) z

state_apart : (labels : Labels) → HasForm labels → AreApart labels.atoms → (i : ℕ) (a b : List TupleList) (x y : List ℕ) → FitsState labels a → FitsState labels b → state_text labels i a ++ x ≡ state_text labels i b ++ y → (a ≡ b) × (x ≡ y)
state_apart labels form apart i a b x y fits other e =
    let front : List ℕ = codes "state " ++ decimal i ++ codes "\n" in
    let rest = append_cancel_left front (flat_map (relation_text labels.atoms a) labels.relations ++ x) (flat_map (relation_text labels.atoms b) labels.relations ++ y) (sym (state_split labels i a x) ∙ e ∙ state_split labels i b y) in
    let found = relations_apart labels apart labels.relations a b x y (recursion_from_All (FitsRelation labels a) labels.relations fits.relations) (recursion_from_All (FitsRelation labels b) labels.relations other.relations) rest in
    (ext_get_or no_set a b (fits.count ∙ sym other.count) (at found.0), found.1)
  where
    at : AllByRecursion (λ (r : RelationLabel). slice_get a r.place ≡ slice_get b r.place) labels.relations → (k : ℕ) → k < length a → get_or a k no_set ≡ get_or b k no_set
    at each k h =
        let count : length a ≡ length labels.relations = fits.count in
        let counted : length b ≡ length labels.relations = other.count in
        let place = form.places k (omega arith) in
        let same : slice_get a place.0.place ≡ slice_get b place.0.place = at_member (λ (r : RelationLabel). slice_get a r.place ≡ slice_get b r.place) labels.relations place.0 each place.1 in
        same_at no_set a b k h (omega arith) (ap (slice_get a) (sym place.2) ∙ same ∙ ap (slice_get b) place.2)

-- ---- the states

at_index : (P : List TupleList → Type 0) (xs : List (List TupleList)) (i : ℕ) → AllByRecursion P xs → i < length xs → P (get_or xs i [])
at_index P [] i each h = absurd (omega arith)
at_index P (x ∷ xs) zero each h = each.0
at_index P (x ∷ xs) (suc i) each h = at_index P xs i each.1 (omega arith)

states_apart : (labels : Labels) → HasForm labels → AreApart labels.atoms → (vs ws : List (List TupleList)) → AllByRecursion (FitsState labels) vs → AllByRecursion (FitsState labels) ws → (n : ℕ) (x y : List ℕ) → n ≤ length vs → n ≤ length ws → states_text labels vs n ++ x ≡ states_text labels ws n ++ y → (take n vs ≡ take n ws) × (x ≡ y)
states_apart labels form apart vs ws fits others zero x y inside within e = (refl, e)
states_apart labels form apart vs ws fits others (suc n) x y inside within e =
    let rest : states_text labels vs n ++ (nth_state_text labels n (slice_get vs n) ++ x) ≡ states_text labels ws n ++ (nth_state_text labels n (slice_get ws n) ++ y) = sym (append_assoc (states_text labels vs n) (nth_state_text labels n (slice_get vs n)) x) ∙ e ∙ append_assoc (states_text labels ws n) (nth_state_text labels n (slice_get ws n)) y in
    let found = states_apart labels form apart vs ws fits others n (nth_state_text labels n (slice_get vs n) ++ x) (nth_state_text labels n (slice_get ws n) ++ y) (omega arith) (omega arith) rest in
    let last : state_text labels n (get_or vs n []) ++ x ≡ state_text labels n (get_or ws n []) ++ y = sym (ap (λ o. nth_state_text labels n o ++ x) (slice_get-get_or vs n [] (omega arith))) ∙ found.1 ∙ ap (λ o. nth_state_text labels n o ++ y) (slice_get-get_or ws n [] (omega arith)) in
    let one = state_apart labels form apart n (get_or vs n []) (get_or ws n []) x y (at_index (FitsState labels) vs n fits (omega arith)) (at_index (FitsState labels) ws n others (omega arith)) last in
    (take-suc vs n [] (omega arith) ∙ ap (λ p. p ++ get_or vs n [] ∷ []) found.0 ∙ ap (λ z. take n ws ++ z ∷ []) one.0 ∙ sym (take-suc ws n [] (omega arith)), one.1)

-- ---- a lasso

header_split : (count from : ℕ) (z : List ℕ) → header_text count from ++ z ≡ codes "trace states " ++ (decimal count ++ 32 ∷ 108 ∷ 111 ∷ 111 ∷ 112 ∷ 32 ∷ (decimal from ++ 10 ∷ z))
header_split count from z =
    append_assoc (codes "trace states " ++ decimal count ++ codes " loop " ++ decimal from) (codes "\n") z
    ∙ append_assoc (codes "trace states " ++ decimal count ++ codes " loop ") (decimal from) (10 ∷ z)
    ∙ append_assoc (codes "trace states " ++ decimal count) (codes " loop ") (decimal from ++ 10 ∷ z)
    ∙ append_assoc (codes "trace states ") (decimal count) (32 ∷ 108 ∷ 111 ∷ 111 ∷ 112 ∷ 32 ∷ (decimal from ++ 10 ∷ z))

headers_apart : (m n k l : ℕ) (x y : List ℕ) → m < 2 ^ 32 → n < 2 ^ 32 → k < 2 ^ 32 → l < 2 ^ 32 → header_text m k ++ x ≡ header_text n l ++ y → ((m ≡ n) × (k ≡ l)) × (x ≡ y)
headers_apart m n k l x y hm hn hk hl e =
    let rest = append_cancel_left (codes "trace states ") (decimal m ++ 32 ∷ 108 ∷ 111 ∷ 111 ∷ 112 ∷ 32 ∷ (decimal k ++ 10 ∷ x)) (decimal n ++ 32 ∷ 108 ∷ 111 ∷ 111 ∷ 112 ∷ 32 ∷ (decimal l ++ 10 ∷ y)) (sym (header_split m k x) ∙ e ∙ header_split n l y) in
    let first = numbers_apart 32 m n (108 ∷ 111 ∷ 111 ∷ 112 ∷ 32 ∷ (decimal k ++ 10 ∷ x)) (108 ∷ 111 ∷ 111 ∷ 112 ∷ 32 ∷ (decimal l ++ 10 ∷ y)) blank_is_no_digit refl hm hn rest in
    let behind : 108 ∷ 111 ∷ 111 ∷ 112 ∷ 32 ∷ (decimal k ++ 10 ∷ x) ≡ 108 ∷ 111 ∷ 111 ∷ 112 ∷ 32 ∷ (decimal l ++ 10 ∷ y) = first.1 in
    let inner : decimal k ++ 10 ∷ x ≡ decimal l ++ 10 ∷ y = cc in
    let second = numbers_apart 10 k l x y feed_is_no_digit refl hk hl inner in
    ((first.0, second.0), second.1)

same_lasso : (a b : LassoValue) → a.states ≡ b.states → a.loop_start ≡ b.loop_start → a ≡ b
same_lasso a b states from =
    let made : List (List TupleList) → ℕ → LassoValue = λ vs n. record { states = vs; loop_start = n } in
    ap (λ vs. made vs a.loop_start) states ∙ ap (made b.states) from

apart_atoms : (labels : Labels) → HasForm labels → AreApart labels.atoms
apart_atoms labels form = record { forms = forms; distinct = form.distinct }
  where
    forms : (a : ℕ) → a < length labels.atoms → IsAtomText (atom_text labels.atoms a)
    forms a h = nth_form labels.atoms a (recursion_from_All IsAtomText labels.atoms form.atoms) h
      where
        nth_form : (atoms : List (List ℕ)) (k : ℕ) → AllByRecursion IsAtomText atoms → k < length atoms → IsAtomText (atom_text atoms k)
        nth_form [] k each h = absurd (omega arith)
        nth_form (t ∷ ts) zero each h = each.0
        nth_form (t ∷ ts) (suc k) each h = nth_form ts k each.1 (omega arith)

pub one_lasso : (labels : Labels) (a b : LassoValue) → HasForm labels → FitsLabels labels a → FitsLabels labels b → trace_text labels a ≡ trace_text labels b → a ≡ b
one_lasso labels a b form fits others e =
    let headers = headers_apart (length a.states) (length b.states) a.loop_start b.loop_start (states_text labels a.states (length a.states) ++ codes "end\n") (states_text labels b.states (length b.states) ++ codes "end\n") fits.count others.count fits.loop_start others.loop_start (sym (whole a) ∙ e ∙ whole b) in
    let count : length a.states ≡ length b.states = headers.0.0 in
    let rest : states_text labels a.states (length a.states) ++ codes "end\n" ≡ states_text labels b.states (length a.states) ++ codes "end\n" = headers.1 ∙ ap (λ n. states_text labels b.states n ++ codes "end\n") (sym count) in
    let found = states_apart labels form (apart_atoms labels form) a.states b.states (recursion_from_All (FitsState labels) a.states fits.states) (recursion_from_All (FitsState labels) b.states others.states) (length a.states) (codes "end\n") (codes "end\n") (omega arith) (omega arith) rest in
    let states : a.states ≡ b.states = sym (take_all (length a.states) a.states (omega arith)) ∙ found.0 ∙ take_all (length a.states) b.states (omega arith) in
    same_lasso a b states headers.0.1
  where
    whole : (lasso : LassoValue) → trace_text labels lasso ≡ header_text (length lasso.states) lasso.loop_start ++ (states_text labels lasso.states (length lasso.states) ++ codes "end\n")
    whole lasso = append_assoc (header_text (length lasso.states) lasso.loop_start) (states_text labels lasso.states (length lasso.states)) (codes "end\n")
