-- The labels of a model's relations: what they are, and that each place is that of just one.
use Rattle.std.proofs.Common.{◌≡◌, ◌⊎◌, inl, inr, ℕ, zero, suc, ◌+◌, ◌-◌, ◌<◌, ◌≤◌, ◌==◌, Bool, true, false, List, [], ◌∷◌, ◌++◌, length, Contains, Option, Some, None, slice_get, refl, sym, ap, ◌∙◌, subst, arith}
use Rattle.std.proofs.lemmas.Bool.{cases_lt, eqb-true, eq-eqb}
use Rattle.std.proofs.lemmas.List.Elements.{Contains-append_cases, Contains-append_left, Contains-append_right, Contains-push}
use Rattle.std.proofs.lemmas.Option.{slice_get_within}
use Rattle.core_tree.specs.declared.model.Model.{Model}
use Rattle.core_tree.specs.declared.model.Sig.{Sig}
use Rattle.core_tree.specs.declared.model.Field.{Field}
use Rattle.core_meaning.specs.declared.scopes.Scopes.{Scopes}
use Rattle.answer_trace.specs.declared.label.RelationLabel.{RelationLabel}
use Rattle.answer_trace.specs.Owners.{owner_at, put_where, owned_in, owned}
use Rattle.answer_trace.specs.Made.{label_of_sig, sig_label_at, label_of_field, field_label_at, field_labels, first_atom, labels_before, relation_labels_of}
use Rattle.answer_trace.proofs.CountLaws.{owner_le, labels_count}
use Rattle.answer_laws.proofs.LabelsApart.{IsApart, apart_none, apart_one, apart_both, in_one, in_none}

-- ---- what an owner's fields are

put_member : (b : Bool) (k : ℕ) (ks : List ℕ) (j : ℕ) → Contains (put_where b k ks) j → ((b ≡ true) × (j ≡ k)) ⊎ Contains ks j
put_member true k ks j c = elim (Contains-append_cases (k ∷ []) ks j c) [ inl here ↦ inl (refl, in_one k j here) | inr rest ↦ inr rest ]
put_member false k ks j c = inr c

owned_member : (own : ℕ → ℕ) (s k n j : ℕ) → Contains (owned_in own s k n) j → (k ≤ j) × (own j ≡ s)
owned_member own s k zero j c = absurd (in_none j c)
owned_member own s k (suc n) j c = elim (put_member (own k == s) k (owned_in own s (suc k) n) j c) [
  | inl here ↦ (let e = here.1 in (omega (arith, e), ap own e ∙ eqb-true (own k) s here.0))
  | inr rest ↦ (let found = owned_member own s (suc k) n j rest in let le = found.0 in (omega (arith, le), found.1))
]

put_here : (b : Bool) (k : ℕ) (ks : List ℕ) → b ≡ true → Contains (put_where b k ks) k
put_here true k ks e = Contains-append_left (k ∷ []) ks k (Contains-push [] k)
put_here false k ks e = absurd (cc)

put_later : (b : Bool) (k : ℕ) (ks : List ℕ) (j : ℕ) → Contains ks j → Contains (put_where b k ks) j
put_later true k ks j c = Contains-append_right (k ∷ []) ks j c
put_later false k ks j c = c

owned_there : (own : ℕ → ℕ) (s k n j : ℕ) → k ≤ j → j < k + n → own j ≡ s → (j < suc k) ⊎ (suc k ≤ j) → Contains (owned_in own s k n) j
owned_there own s k zero j from to is which = absurd (omega arith)
owned_there own s k (suc n) j from to is (inl lt) =
    let e : j ≡ k = omega arith in
    subst (λ (i : ℕ). Contains (owned_in own s k (suc n)) i) (sym e) (put_here (own k == s) k (owned_in own s (suc k) n) (eq-eqb (own k) s (ap own (sym e) ∙ is)))
owned_there own s k (suc n) j from to is (inr le) = put_later (own k == s) k (owned_in own s (suc k) n) j (owned_there own s (suc k) n j le (omega arith) is (cases_lt j (suc (suc k))))

-- ---- what the labels are of

pub record IsSigLabel (model : Model) (scopes : Scopes) (s : ℕ) (r : RelationLabel) : Type 0 where
  pub sig : Sig
  pub at : slice_get model.sigs s ≡ Some sig
  pub is : r ≡ label_of_sig model (first_atom model scopes s) s sig

pub record IsFieldLabel (model : Model) (k : ℕ) (r : RelationLabel) : Type 0 where
  pub field : Field
  pub at : slice_get model.fields k ≡ Some field
  pub is : r ≡ label_of_field model k field

sig_of : (model : Model) (scopes : Scopes) (s : ℕ) (o : Option Sig) (r : RelationLabel) → slice_get model.sigs s ≡ o → Contains (sig_label_at model (first_atom model scopes s) s o) r → IsSigLabel model scopes s r
sig_of model scopes s None r e c = absurd (in_none r c)
sig_of model scopes s (Some sig) r e c = record { sig = sig; at = e; is = in_one _ r c }

field_of : (model : Model) (k : ℕ) (o : Option Field) (r : RelationLabel) → slice_get model.fields k ≡ o → Contains (field_label_at model k o) r → IsFieldLabel model k r
field_of model k None r e c = absurd (in_none r c)
field_of model k (Some f) r e c = record { field = f; at = e; is = in_one _ r c }

fields_of : (model : Model) (ks : List ℕ) (r : RelationLabel) → Contains (field_labels model ks) r → (k : ℕ) × Contains ks k × IsFieldLabel model k r
fields_of model [] r c = absurd (in_none r c)
fields_of model (k ∷ ks) r c = elim (Contains-append_cases (field_label_at model k (slice_get model.fields k)) (field_labels model ks) r c) [
  | inl here ↦ (k, Contains-append_left (k ∷ []) ks k (Contains-push [] k), field_of model k (slice_get model.fields k) r refl here)
  | inr rest ↦ (let found = fields_of model ks r rest in (found.0, Contains-append_right (k ∷ []) ks found.0 found.1, found.2))
]

-- a relation of a sig that is one of the first so many, or of a field of one of these
pub data IsBelow (model : Model) (scopes : Scopes) (n : ℕ) (r : RelationLabel) : Type 0 where
  sig_below : (s : ℕ) → s < n → IsSigLabel model scopes s r → IsBelow model scopes n r
  field_below : (k : ℕ) → owner_at model k < n → IsFieldLabel model k r → IsBelow model scopes n r

-- a relation of this sig, or of a field of it
pub data IsAt (model : Model) (scopes : Scopes) (n : ℕ) (r : RelationLabel) : Type 0 where
  sig_at : IsSigLabel model scopes n r → IsAt model scopes n r
  field_at : (k : ℕ) → owner_at model k ≡ n → IsFieldLabel model k r → IsAt model scopes n r

fields_at : (model : Model) (scopes : Scopes) (n : ℕ) (r : RelationLabel) → Contains (field_labels model (owned model n)) r → IsAt model scopes n r
fields_at model scopes n r c =
    let found = fields_of model (owned model n) r c in
    field_at found.0 (owned_member (owner_at model) n 0 (length model.fields) found.0 found.1).1 found.2

both_at : (model : Model) (scopes : Scopes) (n : ℕ) (r : RelationLabel) → Contains (sig_label_at model (first_atom model scopes n) n (slice_get model.sigs n) ++ field_labels model (owned model n)) r → IsAt model scopes n r
both_at model scopes n r c = elim (Contains-append_cases (sig_label_at model (first_atom model scopes n) n (slice_get model.sigs n)) (field_labels model (owned model n)) r c) [
  | inl here ↦ sig_at (sig_of model scopes n (slice_get model.sigs n) r refl here)
  | inr rest ↦ fields_at model scopes n r rest
]

at_below : (model : Model) (scopes : Scopes) (n : ℕ) (r : RelationLabel) → IsAt model scopes n r → IsBelow model scopes (suc n) r
at_below model scopes n r (sig_at is) = sig_below n (omega arith) is
at_below model scopes n r (field_at k e is) = field_below k (omega (arith, e)) is

below_more : (model : Model) (scopes : Scopes) (n : ℕ) (r : RelationLabel) → IsBelow model scopes n r → IsBelow model scopes (suc n) r
below_more model scopes n r (sig_below s lt is) = sig_below s (omega (arith, lt)) is
below_more model scopes n r (field_below k lt is) = field_below k (omega (arith, lt)) is

before_are : (model : Model) (scopes : Scopes) (n : ℕ) (r : RelationLabel) → Contains (labels_before model scopes n) r → IsBelow model scopes n r
before_are model scopes zero r c = absurd (in_none r c)
before_are model scopes (suc n) r c = elim (Contains-append_cases (labels_before model scopes n) (sig_label_at model (first_atom model scopes n) n (slice_get model.sigs n) ++ field_labels model (owned model n)) r c) [
  | inl before ↦ below_more model scopes n r (before_are model scopes n r before)
  | inr here ↦ at_below model scopes n r (both_at model scopes n r here)
]

pub labels_are : (model : Model) (scopes : Scopes) (r : RelationLabel) → Contains (relation_labels_of model scopes) r → IsBelow model scopes (suc (length model.sigs)) r
labels_are model scopes r c = elim (Contains-append_cases (labels_before model scopes (length model.sigs)) (field_labels model (owned model (length model.sigs))) r c) [
  | inl before ↦ below_more model scopes (length model.sigs) r (before_are model scopes (length model.sigs) r before)
  | inr rest ↦ at_below model scopes (length model.sigs) r (fields_at model scopes (length model.sigs) r rest)
]

-- ---- places

sig_place : (model : Model) (scopes : Scopes) (s : ℕ) (r : RelationLabel) → IsSigLabel model scopes s r → (r.place ≡ s) × (s < length model.sigs)
sig_place model scopes s r is = (ap (λ (l : RelationLabel). l.place) is.is, slice_get_within model.sigs s is.sig is.at)

field_place : (model : Model) (k : ℕ) (r : RelationLabel) → IsFieldLabel model k r → (r.place ≡ length model.sigs + k) × (k < length model.fields)
field_place model k r is = (ap (λ (l : RelationLabel). l.place) is.is, slice_get_within model.fields k is.field is.at)

pub below_within : (model : Model) (scopes : Scopes) (n : ℕ) (r : RelationLabel) → IsBelow model scopes n r → r.place < length model.sigs + length model.fields
below_within model scopes n r (sig_below s lt is) = let (e, le) = sig_place model scopes s r is in omega (arith, e, le)
below_within model scopes n r (field_below k lt is) = let (e, le) = field_place model k r is in omega (arith, e, le)

-- relations of different sigs or of their fields have different places
places_apart : (model : Model) (scopes : Scopes) (n : ℕ) (x y : RelationLabel) → IsBelow model scopes n x → IsAt model scopes n y → x.place ≡ y.place → ⊥
places_apart model scopes n x y (sig_below s lt is) (sig_at at) same =
    let (e, le) = sig_place model scopes s x is in
    let (f, lf) = sig_place model scopes n y at in
    omega (arith, e, f, lt, same)
places_apart model scopes n x y (sig_below s lt is) (field_at k o at) same =
    let (e, le) = sig_place model scopes s x is in
    let (f, lf) = field_place model k y at in
    omega (arith, e, f, le, same)
places_apart model scopes n x y (field_below j lt is) (sig_at at) same =
    let (e, le) = field_place model j x is in
    let (f, lf) = sig_place model scopes n y at in
    omega (arith, e, f, lf, same)
places_apart model scopes n x y (field_below j lt is) (field_at k o at) same =
    let (e, le) = field_place model j x is in
    let (f, lf) = field_place model k y at in
    let one : j ≡ k = omega (arith, e, f, same) in
    let owner : owner_at model j ≡ n = ap (owner_at model) one ∙ o in
    omega (arith, lt, owner)

sig_differs : (model : Model) (first s : ℕ) (o : Option Sig) → IsApart (λ (r : RelationLabel). r.place) (sig_label_at model first s o)
sig_differs model first s None = apart_none (λ (r : RelationLabel). r.place)
sig_differs model first s (Some sig) = apart_one (λ (r : RelationLabel). r.place) (label_of_sig model first s sig)

field_differs : (model : Model) (k : ℕ) (o : Option Field) → IsApart (λ (r : RelationLabel). r.place) (field_label_at model k o)
field_differs model k None = apart_none (λ (r : RelationLabel). r.place)
field_differs model k (Some f) = apart_one (λ (r : RelationLabel). r.place) (label_of_field model k f)

put_differs : (model : Model) (b : Bool) (k : ℕ) (ks : List ℕ) → ((j : ℕ) → Contains ks j → k < j) → IsApart (λ (r : RelationLabel). r.place) (field_labels model ks) → IsApart (λ (r : RelationLabel). r.place) (field_labels model (put_where b k ks))
put_differs model true k ks above rest =
    apart_both (λ (r : RelationLabel). r.place) (field_label_at model k (slice_get model.fields k)) (field_labels model ks) (field_differs model k (slice_get model.fields k)) rest
    (λ x y cx cy same.
    let (e, le) = field_place model k x (field_of model k (slice_get model.fields k) x refl cx) in
    let found = fields_of model ks y cy in
    let (f, lf) = field_place model found.0 y found.2 in
    let lt = above found.0 found.1 in
    omega (arith, e, f, lt, same))
put_differs model false k ks above rest = rest

owned_differ : (model : Model) (own : ℕ → ℕ) (s k n : ℕ) → IsApart (λ (r : RelationLabel). r.place) (field_labels model (owned_in own s k n))
owned_differ model own s k zero = apart_none (λ (r : RelationLabel). r.place)
owned_differ model own s k (suc n) = put_differs model (own k == s) k (owned_in own s (suc k) n) (λ j c. let le = (owned_member own s (suc k) n j c).0 in omega (arith, le)) (owned_differ model own s (suc k) n)

both_differ : (model : Model) (scopes : Scopes) (n : ℕ) → IsApart (λ (r : RelationLabel). r.place) (sig_label_at model (first_atom model scopes n) n (slice_get model.sigs n) ++ field_labels model (owned model n))
both_differ model scopes n =
    apart_both (λ (r : RelationLabel). r.place) (sig_label_at model (first_atom model scopes n) n (slice_get model.sigs n)) (field_labels model (owned model n)) (sig_differs model (first_atom model scopes n) n (slice_get model.sigs n)) (owned_differ model (owner_at model) n 0 (length model.fields))
    (λ x y cx cy same.
    let (e, le) = sig_place model scopes n x (sig_of model scopes n (slice_get model.sigs n) x refl cx) in
    let found = fields_of model (owned model n) y cy in
    let (f, lf) = field_place model found.0 y found.2 in
    omega (arith, e, f, le, same))

before_differ : (model : Model) (scopes : Scopes) (n : ℕ) → IsApart (λ (r : RelationLabel). r.place) (labels_before model scopes n)
before_differ model scopes zero = apart_none (λ (r : RelationLabel). r.place)
before_differ model scopes (suc n) =
    apart_both (λ (r : RelationLabel). r.place) (labels_before model scopes n) (sig_label_at model (first_atom model scopes n) n (slice_get model.sigs n) ++ field_labels model (owned model n)) (before_differ model scopes n) (both_differ model scopes n)
    (λ x y cx cy same. places_apart model scopes n x y (before_are model scopes n x cx) (both_at model scopes n y cy) same)

-- each place is that of one relation at most
pub labels_differ : (model : Model) (scopes : Scopes) → IsApart (λ (r : RelationLabel). r.place) (relation_labels_of model scopes)
labels_differ model scopes =
    apart_both (λ (r : RelationLabel). r.place) (labels_before model scopes (length model.sigs)) (field_labels model (owned model (length model.sigs))) (before_differ model scopes (length model.sigs)) (owned_differ model (owner_at model) (length model.sigs) 0 (length model.fields))
    (λ x y cx cy same. places_apart model scopes (length model.sigs) x y (before_are model scopes (length model.sigs) x cx) (fields_at model scopes (length model.sigs) y cy) same)

-- ---- each relation has a label

field_there : (model : Model) (k : ℕ) (f : Field) → slice_get model.fields k ≡ Some f → Contains (field_label_at model k (slice_get model.fields k)) (label_of_field model k f)
field_there model k f e = subst (λ (o : Option Field). Contains (field_label_at model k o) (label_of_field model k f)) (sym e) (Contains-push [] (label_of_field model k f))

sig_there : (model : Model) (scopes : Scopes) (s : ℕ) (sig : Sig) → slice_get model.sigs s ≡ Some sig → Contains (sig_label_at model (first_atom model scopes s) s (slice_get model.sigs s)) (label_of_sig model (first_atom model scopes s) s sig)
sig_there model scopes s sig e =
    subst (λ (o : Option Sig). Contains (sig_label_at model (first_atom model scopes s) s o) (label_of_sig model (first_atom model scopes s) s sig)) (sym e) (Contains-push [] (label_of_sig model (first_atom model scopes s) s sig))

fields_there : (model : Model) (ks : List ℕ) (k : ℕ) (f : Field) → slice_get model.fields k ≡ Some f → Contains ks k → Contains (field_labels model ks) (label_of_field model k f)
fields_there model [] k f e c = absurd (in_none k c)
fields_there model (j ∷ ks) k f e c = elim (Contains-append_cases (j ∷ []) ks k c) [
  | inl here ↦ Contains-append_left (field_label_at model j (slice_get model.fields j)) (field_labels model ks) (label_of_field model k f)
      (subst (λ (i : ℕ). Contains (field_label_at model i (slice_get model.fields i)) (label_of_field model k f)) (in_one j k here) (field_there model k f e))
  | inr rest ↦ Contains-append_right (field_label_at model j (slice_get model.fields j)) (field_labels model ks) (label_of_field model k f) (fields_there model ks k f e rest)
]

owner_has : (model : Model) (k : ℕ) (f : Field) → slice_get model.fields k ≡ Some f → Contains (field_labels model (owned model (owner_at model k))) (label_of_field model k f)
owner_has model k f e =
    let lt = slice_get_within model.fields k f e in
    fields_there model (owned model (owner_at model k)) k f e (owned_there (owner_at model) (owner_at model k) 0 (length model.fields) k (omega arith) (omega (arith, lt)) refl (cases_lt k 1))

sig_last : (model : Model) (scopes : Scopes) (s : ℕ) (sig : Sig) → slice_get model.sigs s ≡ Some sig → Contains (labels_before model scopes (suc s)) (label_of_sig model (first_atom model scopes s) s sig)
sig_last model scopes s sig e =
    Contains-append_right (labels_before model scopes s) (sig_label_at model (first_atom model scopes s) s (slice_get model.sigs s) ++ field_labels model (owned model s)) (label_of_sig model (first_atom model scopes s) s sig)
    (Contains-append_left (sig_label_at model (first_atom model scopes s) s (slice_get model.sigs s)) (field_labels model (owned model s)) (label_of_sig model (first_atom model scopes s) s sig) (sig_there model scopes s sig e))

field_last : (model : Model) (scopes : Scopes) (k : ℕ) (f : Field) → slice_get model.fields k ≡ Some f → Contains (labels_before model scopes (suc (owner_at model k))) (label_of_field model k f)
field_last model scopes k f e =
    let s : ℕ = owner_at model k in
    Contains-append_right (labels_before model scopes s) (sig_label_at model (first_atom model scopes s) s (slice_get model.sigs s) ++ field_labels model (owned model s)) (label_of_field model k f)
    (Contains-append_right (sig_label_at model (first_atom model scopes s) s (slice_get model.sigs s)) (field_labels model (owned model s)) (label_of_field model k f) (owner_has model k f e))

-- what the labels of the first so many sigs have, those of more have
later_has : (model : Model) (scopes : Scopes) (n s : ℕ) (r : RelationLabel) → s < n → Contains (labels_before model scopes (suc s)) r → Contains (labels_before model scopes n) r
later_has model scopes zero s r lt c = absurd (omega arith)
later_has model scopes (suc n) s r lt c = elim (cases_lt s n) [
  | inl le ↦ Contains-append_left (labels_before model scopes n) (sig_label_at model (first_atom model scopes n) n (slice_get model.sigs n) ++ field_labels model (owned model n)) r (later_has model scopes n s r le c)
  | inr ge ↦ subst (λ (i : ℕ). Contains (labels_before model scopes (suc i)) r) (let e : s ≡ n = omega (arith, ge, lt) in e) c
]

some_at : {X : Type 0} (xs : List X) (k : ℕ) → k < length xs → (x : X) × (slice_get xs k ≡ Some x)
some_at [] k lt = absurd (omega arith)
some_at (x ∷ xs) zero lt = (x, refl)
some_at (x ∷ xs) (suc k) lt = some_at xs k (omega arith)

field_found : (model : Model) (scopes : Scopes) (k : ℕ) (f : Field) → slice_get model.fields k ≡ Some f → (owner_at model k < length model.sigs) ⊎ (length model.sigs ≤ owner_at model k) → Contains (relation_labels_of model scopes) (label_of_field model k f)
field_found model scopes k f e (inl lt) =
    Contains-append_left (labels_before model scopes (length model.sigs)) (field_labels model (owned model (length model.sigs))) (label_of_field model k f) (later_has model scopes (length model.sigs) (owner_at model k) (label_of_field model k f) lt (field_last model scopes k f e))
field_found model scopes k f e (inr ge) =
    let le = owner_le model k in
    let last : owner_at model k ≡ length model.sigs = omega (arith, le, ge) in
    Contains-append_right (labels_before model scopes (length model.sigs)) (field_labels model (owned model (length model.sigs))) (label_of_field model k f)
    (subst (λ (s : ℕ). Contains (field_labels model (owned model s)) (label_of_field model k f)) last (owner_has model k f e))

place_found : (model : Model) (scopes : Scopes) (k : ℕ) → k < length model.sigs + length model.fields → (k < length model.sigs) ⊎ (length model.sigs ≤ k) → (r : RelationLabel) × Contains (relation_labels_of model scopes) r × (r.place ≡ k)
place_found model scopes k lt (inl le) =
    let (sig, e) = some_at model.sigs k le in
    let r : RelationLabel = label_of_sig model (first_atom model scopes k) k sig in
    (r, Contains-append_left (labels_before model scopes (length model.sigs)) (field_labels model (owned model (length model.sigs))) r (later_has model scopes (length model.sigs) k r le (sig_last model scopes k sig e)), refl)
place_found model scopes k lt (inr ge) =
    let (f, e) = some_at model.fields (k - length model.sigs) (omega arith) in
    (label_of_field model (k - length model.sigs) f, field_found model scopes (k - length model.sigs) f e (cases_lt (owner_at model (k - length model.sigs)) (length model.sigs)), omega arith)

-- each place of a state is that of a relation
pub places_found : (model : Model) (scopes : Scopes) (k : ℕ) → k < length (relation_labels_of model scopes) → (r : RelationLabel) × Contains (relation_labels_of model scopes) r × (r.place ≡ k)
places_found model scopes k lt = let count = labels_count model scopes in place_found model scopes k (omega (arith, count, lt)) (cases_lt k (length model.sigs))
