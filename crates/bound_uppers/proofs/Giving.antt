-- What the table gives sigs, as sets.
use Rattle.std.proofs.Common.{◌≡◌, ◌⊎◌, ◌↔◌, inl, inr, ℕ, zero, suc, ◌+◌, ◌-◌, ◌<◌, ◌≤◌, eqb, Bool, true, false, if◌then◌else◌, IsTrue, not, ◌&&◌, List, [], ◌∷◌, ◌++◌, length, length-append, get_or, slice_get, slice_index, Option, Some, None, All, refl, ap, sym, ◌∙◌, subst, arith}
use Rattle.std.proofs.lemmas.Bool.{cases_lt, cases_eq, eq-eqb, ne_eqb, eqb-true, false≢true}
use Rattle.std.proofs.lemmas.List.{get_or_past}
use Rattle.std.proofs.lemmas.Option.{slice_get_past, slice_get_within}
use Rattle.std.proofs.lemmas.List.Elements.{All-nil, All-push}
use Rattle.core_tuples.specs.Sets.{TupleList, In, HasJust}
use Rattle.core_tuples.proofs.OrderLemmas.{no_members}
use Rattle.core_tree.specs.declared.model.Model.{Model}
use Rattle.core_tree.specs.declared.model.Sig.{Sig}
use Rattle.core_tree.specs.declared.model.Column.TheVariants.{Int as IntColumn}
use Rattle.core_tree.specs.Types.{by_sig}
use Rattle.core_meaning.specs.declared.scopes.SigScope.{SigScope}
use Rattle.core_meaning.specs.declared.scopes.Scopes.{Scopes}
use Rattle.core_meaning.specs.Kept.{first_atom, universe_size, or_zero_number}
use Rattle.bound_uppers.specs.declared.numbers.AtomRange.{AtomRange}
use Rattle.bound_uppers.specs.declared.numbers.AtomRanges.{AtomRanges}
use Rattle.bound_uppers.specs.declared.given.AtomSets.{AtomSets}
use Rattle.bound_owners.specs.Tops.{top_at, HasTops}
use Rattle.bound_uppers.specs.Kinds.{no_span, integers_kind, sig_kind, HasSpans, InSpan}
use Rattle.bound_owners.specs.Own.{is_single, is_extended, is_constant, top_of, owners, owner_of, does_own, is_given, is_given_by, stands_as}
use Rattle.bound_owners.specs.Owned.{AreConstants, HasStanding}
use Rattle.bound_uppers.specs.Given.{IsGiven, InColumnTable}
use Rattle.bound_uppers.specs.AtomSets.{set_at, IsColumn, AreGiven, InSigSet, AreSigSets}
use Rattle.bound_uppers.proofs.Exact.{those, of_integers, option_cases, nobody, sig_span, lacks_span}
use Rattle.bound_owners.proofs.Owning.{owns_is, none_owns, top_outside, same_either}
use Rattle.bound_uppers.proofs.Sketching.{get_early, get_new}

-- ---- one atom more, or none

pub atom_added : (set new : TupleList) (a : ℕ) (b : Bool) → b ≡ true → HasJust new 1 (λ t. In t set ⊎ (t ≡ a ∷ [])) → HasJust new 1 (λ t. In t set ⊎ (IsTrue b × (t ≡ a ∷ [])))
atom_added set new a b on is = record {
  columns = is.columns;
  just = λ t. (
    (λ h. elim ((is.just t).0 h) [ inl before ↦ inl before | inr here ↦ inr (on, here) ]),
    (λ h. elim h [ inl before ↦ (is.just t).1 (inl before) | inr here ↦ (is.just t).1 (inr here.1) ]),
  );
}

pub none_added : (set : TupleList) (a : ℕ) (b : Bool) → b ≡ false → set.arity ≡ 1 → HasJust set 1 (λ t. In t set ⊎ (IsTrue b × (t ≡ a ∷ [])))
none_added set a b off one = record {
  columns = one;
  just = λ t. ((λ h. inl h), (λ h. elim h [ inl before ↦ before | inr here ↦ absurd (false≢true (sym off ∙ here.0)) ]));
}

-- ---- the atoms of a span that pass

abbrev pub InGivenFirst : (ℕ → Bool) → ℕ → ℕ → List ℕ → Type 0
InGivenFirst passes first count t = (a : ℕ) × (first ≤ a) × (a < first + count) × (t ≡ a ∷ []) × IsTrue (passes (a - first))

pub given_none : (passes : ℕ → Bool) (first : ℕ) (set : TupleList) → set ≡ record { arity = 1; tuples = [] } → HasJust set 1 (InGivenFirst passes first 0)
given_none passes first set e = subst (λ (s : TupleList). HasJust s 1 (InGivenFirst passes first 0)) (sym e) (record {
  columns = refl;
  just = λ t. ((λ h. absurd (no_members t h)), (λ h. let low = h.1 in let high = h.2 in absurd (omega (arith, low, high))));
})

last_or : (passes : ℕ → Bool) (first count a : ℕ) (t : List ℕ) → first ≤ a → a < first + (count + 1) → t ≡ a ∷ [] → IsTrue (passes (a - first)) → (a < first + count) ⊎ (first + count ≤ a) → InGivenFirst passes first count t ⊎ (IsTrue (passes count) × (t ≡ (first + count) ∷ []))
last_or passes first count a t low high is given (inl less) = inl (a, low, less, is, given)
last_or passes first count a t low high is given (inr far) =
    let same : a ≡ first + count = omega (arith, high, far) in
    let place : a - first ≡ count = omega (arith, same) in
    inr (subst (λ (n : ℕ). IsTrue (passes n)) place given, is ∙ ap (λ (n : ℕ). n ∷ []) same)

pub given_more : (passes : ℕ → Bool) (first count : ℕ) (b : Bool) (old new : TupleList) → b ≡ passes count → HasJust old 1 (InGivenFirst passes first count) → HasJust new 1 (λ t. In t old ⊎ (IsTrue b × (t ≡ (first + count) ∷ []))) → HasJust new 1 (InGivenFirst passes first (count + 1))
given_more passes first count b old new e was added = record {
  columns = added.columns;
  just = λ t. (
    (λ h. elim ((added.just t).0 h) [
      | inl before ↦ let f = (was.just t).0 before in let high = f.2 in (f.0, f.1, omega (arith, high), f.3, f.4)
      | inr here ↦
          let place : first + count - first ≡ count = omega arith in
          (first + count, omega arith, omega arith, here.1, subst (λ (n : ℕ). IsTrue (passes n)) (sym place) (subst IsTrue e here.0))
    ]),
    (λ h. elim (last_or passes first count h.0 t h.1 h.2 h.3 h.4 (cases_lt h.0 (first + count))) [
      | inl before ↦ (added.just t).1 (inl ((was.just t).1 before))
      | inr here ↦ (added.just t).1 (inr (subst IsTrue (sym e) here.0, here.1))
    ]),
  );
}

pub given_all : (passes : ℕ → Bool) (span : AtomRange) (set : TupleList) (count : ℕ) → span.count ≤ count → count ≤ span.count → HasJust set 1 (InGivenFirst passes span.first count) → HasJust set 1 (λ t. (a : ℕ) × InSpan span a × (t ≡ a ∷ []) × IsTrue (passes (a - span.first)))
given_all passes span set count low high was = record {
  columns = was.columns;
  just = λ t. (
    (λ h. let f = (was.just t).0 h in let less = f.2 in (f.0, (f.1, omega (arith, less, high)), f.3, f.4)),
    (λ h. let less = h.1.1 in (was.just t).1 (h.0, h.1.0, omega (arith, less, low), h.2, h.3)),
  );
}

-- ---- what a sig is given

no_owner : (xs : List ℕ) (k : ℕ) → length xs ≡ 0 → slice_get xs k ≡ None
no_owner [] k none = refl
no_owner (x ∷ xs) k none = absurd (omega (arith, none))

module _ (model : Model) (scopes : Scopes) (spans : AtomRanges) (has : HasSpans scopes spans) where
  -- the numbers of a top-level sig begin with its first atom, where it has any
  span_first : (top a : ℕ) → InSpan (get_or spans.sigs.items top no_span) a → (get_or spans.sigs.items top no_span).first ≡ first_atom scopes.numbers top
  span_first top a h = elim (option_cases (slice_get scopes.numbers top)) [
    | inl none ↦ absurd (nobody a (subst (λ (z : AtomRange). InSpan z a) (lacks_span scopes spans has top no_span none) h))
    | inr (s, some) ↦ ap (λ (z : AtomRange). z.first) (sig_span scopes spans has top no_span s some)
  ]

  -- by the numbers' places in the span, or by the places in the top-level sig
  abbrev GivenAt : ℕ → Bool → List ℕ → ℕ → ℕ → Type 0
  GivenAt s owns found first a = IsTrue (is_given_by model.sigs owns (slice_get found (a - first)) s)

  pub sig_given : (s top : ℕ) (found : List ℕ) (owns : Bool) (span : AtomRange) (set : TupleList) → top ≡ top_of model.sigs s → found ≡ owners model.sigs scopes.numbers top → owns ≡ does_own model.sigs scopes.numbers s → span ≡ get_or spans.sigs.items top no_span →
      HasJust set 1 (λ t. (a : ℕ) × InSpan span a × (t ≡ a ∷ []) × GivenAt s owns found span.first a) → HasJust set 1 (InSigSet model scopes s)
  sig_given s top found owns span set up own does is made =
      let above = top_of model.sigs s in
      let span_is : span ≡ get_or spans.sigs.items above no_span = is ∙ ap (λ (t : ℕ). get_or spans.sigs.items t no_span) up in
      let found_is : found ≡ owners model.sigs scopes.numbers above = own ∙ ap (λ (t : ℕ). owners model.sigs scopes.numbers t) up in
      let owns_is = does_own model.sigs scopes.numbers s in
      record {
        columns = made.columns;
        just = λ t. (
          (λ h.
              let f = (made.just t).0 h in
              let in_span : InSpan (get_or spans.sigs.items above no_span) f.0 = subst (λ (z : AtomRange). InSpan z f.0) span_is f.1 in
              let first : span.first ≡ first_atom scopes.numbers above = ap (λ (z : AtomRange). z.first) span_is ∙ span_first above f.0 in_span in
              let range = (those scopes spans has above f.0).0 in_span in
              let given : GivenAt s owns_is (owners model.sigs scopes.numbers above) (first_atom scopes.numbers above) f.0 =
              subst (λ (n : ℕ). GivenAt s owns_is (owners model.sigs scopes.numbers above) n f.0) first
              (subst (λ (xs : List ℕ). GivenAt s owns_is xs span.first f.0) found_is
              (subst (λ (b : Bool). GivenAt s b found span.first f.0) does f.3)) in
              (f.0, f.2, record { atom = range.0; given = given }, range.1)),
          (λ h.
              let in_span : InSpan (get_or spans.sigs.items above no_span) h.0 = (those scopes spans has above h.0).1 (h.2.atom, h.3) in
              let first : span.first ≡ first_atom scopes.numbers above = ap (λ (z : AtomRange). z.first) span_is ∙ span_first above h.0 in_span in
              let given : GivenAt s owns found span.first h.0 =
              subst (λ (b : Bool). GivenAt s b found span.first h.0) (sym does)
              (subst (λ (xs : List ℕ). GivenAt s owns_is xs span.first h.0) (sym found_is)
              (subst (λ (n : ℕ). GivenAt s owns_is (owners model.sigs scopes.numbers above) n h.0) (sym first) h.2.given)) in
              (made.just t).1 (h.0, subst (λ (z : AtomRange). InSpan z h.0) (sym span_is) in_span, h.1, given)),
        );
      }

module _ (model : Model) (scopes : Scopes) where
  -- where there are no owners each sig is given each atom
  given_all_atoms : (s a : ℕ) → length (owners model.sigs scopes.numbers (top_of model.sigs s)) ≡ 0 → IsTrue (is_given model.sigs scopes.numbers (owner_of model.sigs scopes.numbers (top_of model.sigs s) a) s)
  given_all_atoms s a none =
      let no : owner_of model.sigs scopes.numbers (top_of model.sigs s) a ≡ None = no_owner (owners model.sigs scopes.numbers (top_of model.sigs s)) (a - first_atom scopes.numbers (top_of model.sigs s)) none in
      subst (λ (o : Option ℕ). IsTrue (is_given model.sigs scopes.numbers o s)) (sym no) (ap not (none_owns model.sigs scopes.numbers s none))

  abbrev InTop : ℕ → ℕ → Type 0
  InTop t a = (first_atom scopes.numbers t ≤ a) × (a < first_atom scopes.numbers t + or_zero_number (slice_get scopes.numbers t))

  -- a sig is given what the one is as which it stands
  pub given_same : (s a : ℕ) → ((q : ℕ) → top_of model.sigs (top_of model.sigs q) ≡ top_of model.sigs q) → IsGiven model scopes (stands_as model.sigs scopes.numbers s) a ↔ IsGiven model scopes s a
  given_same s a above = by_test (eqb (length (owners model.sigs scopes.numbers (top_of model.sigs s))) 0) refl
    where
      by_test : (b : Bool) → eqb (length (owners model.sigs scopes.numbers (top_of model.sigs s))) 0 ≡ b → IsGiven model scopes (stands_as model.sigs scopes.numbers s) a ↔ IsGiven model scopes s a
      by_test false e =
          let is : stands_as model.sigs scopes.numbers s ≡ s = ap (λ (b : Bool). if b then top_of model.sigs s else s) e in
          subst (λ (x : ℕ). IsGiven model scopes x a ↔ IsGiven model scopes s a) (sym is) ((λ h. h), (λ h. h))
      by_test true e =
          let is : stands_as model.sigs scopes.numbers s ≡ top_of model.sigs s = ap (λ (b : Bool). if b then top_of model.sigs s else s) e in
          let none = eqb-true (length (owners model.sigs scopes.numbers (top_of model.sigs s))) 0 e in
          let none_above : length (owners model.sigs scopes.numbers (top_of model.sigs (top_of model.sigs s))) ≡ 0 = ap (λ (t : ℕ). length (owners model.sigs scopes.numbers t)) (above s) ∙ none in
          subst (λ (x : ℕ). IsGiven model scopes x a ↔ IsGiven model scopes s a) (sym is) (
            (λ h. record { atom = subst (λ (t : ℕ). InTop t a) (above s) h.atom; given = given_all_atoms s a none }),
            (λ h. record { atom = subst (λ (t : ℕ). InTop t a) (sym (above s)) h.atom; given = given_all_atoms (top_of model.sigs s) a none_above }),
          )

-- ---- the sets of the sigs

pub sets_none : (model : Model) (scopes : Scopes) (standing : List ℕ) → AreSigSets model scopes standing 0 []
sets_none model scopes standing = record { count = refl; columns = All-nil IsColumn; each = λ s set is at. absurd cc }

pub sets_more : (model : Model) (scopes : Scopes) (standing : List ℕ) (n stands : ℕ) (set : TupleList) (old new : List TupleList) → stands ≡ top_at standing n → IsColumn set → (stands ≡ n → HasJust set 1 (InSigSet model scopes n)) → AreSigSets model scopes standing n old → new ≡ old ++ set ∷ [] → AreSigSets model scopes standing (n + 1) new
sets_more model scopes standing n stands set old new up column its was e =
    let long : length new ≡ n + 1 = ap length e ∙ (length-append old (set ∷ []) ∙ ap (λ (m : ℕ). m + 1) was.count) in
    record {
      count = long;
      columns = subst (λ (xs : List TupleList). All IsColumn xs) (sym e) (All-push IsColumn old set was.columns column);
      each = λ s x own at. elim (cases_lt s n) [
        | inl less ↦
            let count = was.count in
            was.each s x own (sym (get_early old set s (omega (arith, less, count))) ∙ (ap (λ (xs : List TupleList). slice_get xs s) (sym e) ∙ at))
        | inr far ↦
            let within = slice_get_within new s x at in
            let same : s ≡ n = omega (arith, far, within, long) in
            let it : set ≡ x = some_same (slice_get new n) set x (get_new old new set n e was.count) (subst (λ (m : ℕ). slice_get new m ≡ Some x) same at) in
            let stays : stands ≡ n = up ∙ subst (λ (m : ℕ). top_at standing m ≡ m) same own in
            subst (λ (m : ℕ). HasJust x 1 (InSigSet model scopes m)) (sym same) (subst (λ (z : TupleList). HasJust z 1 (InSigSet model scopes n)) it (its stays))
      ];
    }
  where
    some_same : (o : Option TupleList) (y z : TupleList) → o ≡ Some y → o ≡ Some z → y ≡ z
    some_same o y z f g = cc

pub sets_all : (model : Model) (scopes : Scopes) (standing : List ℕ) (n m : ℕ) (sets : List TupleList) → m ≤ n → n ≤ m → AreSigSets model scopes standing n sets → AreSigSets model scopes standing m sets
sets_all model scopes standing n m sets low high are = let same : n ≡ m = omega (arith, low, high) in subst (λ (k : ℕ). AreSigSets model scopes standing k sets) same are

-- ---- constants

-- each sig is marked just where it is a constant
mark_is : (sigs : List Sig) (marks : List Bool) (s : ℕ) → AreConstants sigs (length sigs) marks → get_or marks s false ≡ is_constant sigs s
mark_is sigs marks s are = elim (cases_lt s (length sigs)) [
  | inl less ↦ are.each s less
  | inr far ↦
      let count = are.count in
      get_or_past marks s false (omega (arith, count, far)) ∙ sym (ap (λ (o : Option Sig). by_sig false is_single o && not (is_extended sigs s)) (slice_get_past sigs s far))
]

pub owns_of : (sigs : List Sig) (numbers : List SigScope) (marks : List Bool) (found : List ℕ) (s top : ℕ) (owns : Bool) → AreConstants sigs (length sigs) marks → top ≡ top_of sigs s → found ≡ owners sigs numbers top → owns ≡ (get_or marks s false && not (eqb (length found) 0)) → owns ≡ does_own sigs numbers s
owns_of sigs numbers marks found s top owns are up own is =
    is
    ∙ (ap (λ (b : Bool). b && not (eqb (length found) 0)) (mark_is sigs marks s are)
    ∙ (ap (λ (xs : List ℕ). is_constant sigs s && not (eqb (length xs) 0)) (own ∙ ap (λ (t : ℕ). owners sigs numbers t) up)
    ∙ owns_is sigs numbers s))

-- ---- top-level sigs

pub tops_none : (ups : List ℕ) (s : ℕ) → s < 0 → top_at ups (top_at ups s) ≡ top_at ups s
tops_none ups s lt = absurd (omega arith)

-- a list's number at a place, whatever is given behind its end
any_default : (xs : List ℕ) (k d e : ℕ) → k < length xs → get_or xs k d ≡ get_or xs k e
any_default [] k d e lt = absurd (omega arith)
any_default (x ∷ xs) zero d e lt = refl
any_default (x ∷ xs) (suc k) d e lt = any_default xs k d e (omega arith)

pub tops_more : (ups : List ℕ) (n top : ℕ) → n < length ups → top ≡ slice_index ups n → top_at ups top ≡ top → ((s : ℕ) → s < n → top_at ups (top_at ups s) ≡ top_at ups s) → (s : ℕ) → s < n + 1 → top_at ups (top_at ups s) ≡ top_at ups s
tops_more ups n top lt is own each s low = elim (cases_lt s n) [
  | inl less ↦ each s less
  | inr far ↦
      let same : s ≡ n = omega (arith, far, low) in
      let here : top ≡ top_at ups n = is ∙ any_default ups n 0 n lt in
      subst (λ (m : ℕ). top_at ups (top_at ups m) ≡ top_at ups m) (sym same) (subst (λ (t : ℕ). top_at ups t ≡ t) here own)
]

-- behind the list each sig is its own
pub tops_all : (ups : List ℕ) (n : ℕ) → length ups ≤ n → ((s : ℕ) → s < n → top_at ups (top_at ups s) ≡ top_at ups s) → IsTrue true → (s : ℕ) → top_at ups (top_at ups s) ≡ top_at ups s
tops_all ups n le each on s = elim (cases_lt s n) [ inl less ↦ each s less | inr far ↦ ap (λ (m : ℕ). top_at ups m) (get_or_past ups s s (omega (arith, far, le))) ]

-- ---- all kinds

pub item_there : {X : Type 0} (xs : List X) (k : ℕ) (d : X) → k < length xs → slice_get xs k ≡ Some (get_or xs k d)
item_there [] k d lt = absurd (omega arith)
item_there (x ∷ xs) zero d lt = refl
item_there (x ∷ xs) (suc k) d lt = item_there xs k d (omega arith)

same_number : (a b : ℕ) → a ∷ [] ≡ b ∷ [] → b ≡ a
same_number a b e = cc

module _ (model : Model) (scopes : Scopes) (spans : AtomRanges) (ups standing : List ℕ) (sets : AtomSets) (tops : HasTops model.sigs ups) (has : HasSpans scopes spans) (stands : HasStanding model.sigs scopes.numbers standing)
    (counted : length scopes.numbers ≡ length model.sigs) (above : (s : ℕ) → top_at ups (top_at ups s) ≡ top_at ups s) (are : AreSigSets model scopes standing (length model.sigs) sets.sigs.items)
    (integers : HasJust sets.integers 1 (λ t. (a : ℕ) × InSpan spans.integers a × (t ≡ a ∷ []))) (column : IsColumn sets.integers) (none : sets.none ≡ record { arity = 1; tuples = [] }) (empty : IsColumn sets.none) where
  twice : (s : ℕ) → top_of model.sigs (top_of model.sigs s) ≡ top_of model.sigs s
  twice s = sym (tops (top_of model.sigs s)) ∙ (ap (λ (m : ℕ). top_at ups m) (sym (tops s)) ∙ (above s ∙ tops s))

  -- a sig as which others stand stands as itself
  stands_twice : (s : ℕ) → stands_as model.sigs scopes.numbers (stands_as model.sigs scopes.numbers s) ≡ stands_as model.sigs scopes.numbers s
  stands_twice s = by_test (eqb (length (owners model.sigs scopes.numbers (top_of model.sigs s))) 0) refl
    where
      by_test : (b : Bool) → eqb (length (owners model.sigs scopes.numbers (top_of model.sigs s))) 0 ≡ b → stands_as model.sigs scopes.numbers (stands_as model.sigs scopes.numbers s) ≡ stands_as model.sigs scopes.numbers s
      by_test false e = ap (stands_as model.sigs scopes.numbers) (ap (λ (b : Bool). if b then top_of model.sigs s else s) e)
      by_test true e =
          let is : stands_as model.sigs scopes.numbers s ≡ top_of model.sigs s = ap (λ (b : Bool). if b then top_of model.sigs s else s) e in
          let itself = same_either (eqb (length (owners model.sigs scopes.numbers (top_of model.sigs (top_of model.sigs s)))) 0) (top_of model.sigs (top_of model.sigs s)) (top_of model.sigs s) (twice s) in
          ap (stands_as model.sigs scopes.numbers) is ∙ (itself ∙ sym is)

  column_at : (k : ℕ) (b : Bool) → eqb k integers_kind ≡ b → IsColumn (if b then sets.integers else get_or sets.sigs.items k sets.none)
  column_at k true e = column
  column_at k false e = elim (cases_lt k (length sets.sigs.items)) [
    | inl less ↦ are.columns k sets.none less
    | inr far ↦ subst IsColumn (sym (get_or_past sets.sigs.items k sets.none far)) empty
  ]

  integer_is : (a : ℕ) → In (a ∷ []) sets.integers ↔ (InColumnTable model scopes IntColumn a × (a < universe_size scopes))
  integer_is a = (
    (λ h. let f = (integers.just (a ∷ [])).0 h in (of_integers scopes spans has a).0 (subst (λ (n : ℕ). InSpan spans.integers n) (same_number a f.0 f.2) f.1)),
    (λ h. (integers.just (a ∷ [])).1 (a, (of_integers scopes spans has a).1 h, refl)),
  )

  set_of_sig : (k : ℕ) → (k ≡ integers_kind → ⊥) → set_at sets k ≡ get_or sets.sigs.items k sets.none
  set_of_sig k other = ap (λ (b : Bool). if b then sets.integers else get_or sets.sigs.items k sets.none) (ne_eqb k integers_kind other)

  kind_of_sig : (r : ℕ) → (r ≡ integers_kind → ⊥) → sig_kind r ≡ r
  kind_of_sig r other = ap (λ (b : Bool). if b then 4294967294 else r) (ne_eqb r integers_kind other)

  -- a sig of the model that stands as itself
  given_there : (r a : ℕ) → r < length model.sigs → top_at standing r ≡ r → In (a ∷ []) (set_at sets (sig_kind r)) ↔ (IsGiven model scopes r a × (a < universe_size scopes))
  given_there r a lt own =
      let few = has.few in
      let other : r ≡ integers_kind → ⊥ = λ e. absurd (omega (arith, few, counted, lt, e)) in
      let count = are.count in
      let set = get_or sets.sigs.items r sets.none in
      let is : set_at sets (sig_kind r) ≡ set = ap (set_at sets) (kind_of_sig r other) ∙ set_of_sig r other in
      let just = (are.each r set own (item_there sets.sigs.items r sets.none (omega (arith, count, lt)))).just (a ∷ []) in
      subst (λ (x : TupleList). In (a ∷ []) x ↔ (IsGiven model scopes r a × (a < universe_size scopes))) (sym is) (
        (λ h. let f = just.0 h in (subst (IsGiven model scopes r) (same_number a f.0 f.1) f.2, subst (λ (n : ℕ). n < universe_size scopes) (same_number a f.0 f.1) f.3)),
        (λ h. just.1 (a, refl, h.0, h.1)),
      )

  -- no sig of the model
  nothing_of : (k a : ℕ) → (k ≡ integers_kind → ⊥) → length model.sigs ≤ k → In (a ∷ []) (set_at sets k) → ⊥
  nothing_of k a other far h =
      let count = are.count in
      let is : set_at sets k ≡ record { arity = 1; tuples = [] } = set_of_sig k other ∙ (get_or_past sets.sigs.items k sets.none (omega (arith, count, far)) ∙ none) in
      no_members (a ∷ []) (subst (λ (x : TupleList). In (a ∷ []) x) is h)

  nothing_lacks : (r a : ℕ) → length model.sigs ≤ r → In (a ∷ []) (set_at sets (sig_kind r)) → ⊥
  nothing_lacks r a far h = elim (cases_eq r integers_kind) [
    | inl is ↦
        let few = has.few in
        let kind : sig_kind r ≡ 4294967294 = ap (λ (b : Bool). if b then 4294967294 else r) (eq-eqb r integers_kind is) in
        nothing_of 4294967294 a (λ e. absurd (omega (arith, e))) (omega (arith, few, counted)) (subst (λ (k : ℕ). In (a ∷ []) (set_at sets k)) kind h)
    | inr other ↦ nothing_of r a other far (subst (λ (k : ℕ). In (a ∷ []) (set_at sets k)) (kind_of_sig r other) h)
  ]

  no_atom : (r a : ℕ) → length model.sigs ≤ r → IsGiven model scopes r a → ⊥
  no_atom r a far h =
      let itself : top_of model.sigs r ≡ r = top_outside model.sigs (length model.sigs) r (slice_get_past model.sigs r far) in
      let range = subst (λ (t : ℕ). InTop model scopes t a) itself h.atom in
      let high = subst (λ (o : Option SigScope). a < first_atom scopes.numbers r + or_zero_number o) (slice_get_past scopes.numbers r (omega (arith, far, counted))) range.1 in
      let low = range.0 in
      absurd (omega (arith, low, high))

  given_at : (r a : ℕ) → top_at standing r ≡ r → In (a ∷ []) (set_at sets (sig_kind r)) ↔ (IsGiven model scopes r a × (a < universe_size scopes))
  given_at r a own = elim (cases_lt r (length model.sigs)) [
    | inl less ↦ given_there r a less own
    | inr far ↦ ((λ h. absurd (nothing_lacks r a far h)), (λ h. absurd (no_atom r a far h.0)))
  ]

  pub are_given : AreGiven model scopes sets
  are_given = record {
    columns = λ k. column_at k (eqb k integers_kind) refl;
    sigs = λ s a.
        let own = given_at (stands_as model.sigs scopes.numbers s) a (stands (stands_as model.sigs scopes.numbers s) ∙ stands_twice s) in
        let same = given_same model scopes s a twice in
        ((λ h. let f = own.0 h in (same.0 f.0, f.1)), (λ h. own.1 (same.1 h.0, h.1)));
    integers = integer_is;
  }
