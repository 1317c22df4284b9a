-- What a set has just, from the test of membership.
use Rattle.std.proofs.Common.{◌≡◌, ◌↔◌, ◌⊎◌, ℕ, List, sym, ap, ◌∙◌, inl, inr, Bool, true, false, Result, Ok, Err, IfOk, Contains, subst}
use Rattle.std.specs.List.{list_any}
use Rattle.std.proofs.lemmas.Bool.{cases_Bool, false≢true}
use Rattle.core_tuples.specs.Sets.{TupleList, HasJust, is_same}
use Rattle.core_tuples.specs.Merged.{has, keeps}
use Rattle.core_tuples.specs.declared.merge.Kept.{Kept}
use Rattle.core_tuples.proofs.Same.{has_in, in_has}

-- a set of which a test is known
pub just_made : {E : Type 0} (r : Result TupleList E) (arity : ℕ) (P : List ℕ → Type 0) (q : List ℕ → Bool) → IfOk r (λ s. s.arity ≡ arity) → IfOk r (λ s. (t : List ℕ) → has s.tuples t ≡ q t) → ((t : List ℕ) → (q t ≡ true) ↔ P t) → IfOk r (λ s. HasJust s arity P)
just_made (Ok s) arity P q columns truth means = record {
  columns = columns;
  just = λ t. (
    (λ h. (means t).0 (sym (truth t) ∙ in_has s.tuples t h)),
    (λ p. has_in s.tuples t (truth t ∙ (means t).1 p)),
  );
}
just_made (Err e) arity P q columns truth means = tt

-- a tuple that the test doesn't find isn't there
not_in : (ts : List (List ℕ)) (t : List ℕ) → has ts t ≡ false → Contains ts t → ⊥
not_in ts t h there = false≢true (sym h ∙ in_has ts t there)

module _ (kept : Kept) (xs ys : List (List ℕ)) (t : List ℕ) where
  both : (v w : Bool) → has xs t ≡ v → has ys t ≡ w → keeps kept (has xs t) (has ys t) ≡ keeps kept v w
  both v w e f = ap (λ (b : Bool). keeps kept b (has ys t)) e ∙ ap (λ (b : Bool). keeps kept v b) f

  pub union_means : kept.first ≡ true → kept.both ≡ true → kept.second ≡ true → (keeps kept (has xs t) (has ys t) ≡ true) ↔ (Contains xs t ⊎ Contains ys t)
  union_means first all second = elim (cases_Bool (has xs t)) [
    | inl e ↦ elim (cases_Bool (has ys t)) [
      | inl f ↦ ((λ _. inl (has_in xs t e)), (λ _. both true true e f ∙ all))
      | inr f ↦ ((λ _. inl (has_in xs t e)), (λ _. both true false e f ∙ first))
    ]
    | inr e ↦ elim (cases_Bool (has ys t)) [
      | inl f ↦ ((λ _. inr (has_in ys t f)), (λ _. both false true e f ∙ second))
      | inr f ↦ ((λ h. absurd (false≢true (sym (both false false e f) ∙ h))), (elim [ inl h ↦ absurd (not_in xs t e h) | inr h ↦ absurd (not_in ys t f h) ]))
    ]
  ]

  pub intersection_means : kept.first ≡ false → kept.both ≡ true → kept.second ≡ false → (keeps kept (has xs t) (has ys t) ≡ true) ↔ (Contains xs t × Contains ys t)
  intersection_means first all second = elim (cases_Bool (has xs t)) [
    | inl e ↦ elim (cases_Bool (has ys t)) [
      | inl f ↦ ((λ _. (has_in xs t e, has_in ys t f)), (λ _. both true true e f ∙ all))
      | inr f ↦ ((λ h. absurd (false≢true (sym first ∙ sym (both true false e f) ∙ h))), (λ h. absurd (not_in ys t f h.1)))
    ]
    | inr e ↦ elim (cases_Bool (has ys t)) [
      | inl f ↦ ((λ h. absurd (false≢true (sym second ∙ sym (both false true e f) ∙ h))), (λ h. absurd (not_in xs t e h.0)))
      | inr f ↦ ((λ h. absurd (false≢true (sym (both false false e f) ∙ h))), (λ h. absurd (not_in xs t e h.0)))
    ]
  ]

  pub difference_means : kept.first ≡ true → kept.both ≡ false → kept.second ≡ false → (keeps kept (has xs t) (has ys t) ≡ true) ↔ (Contains xs t × (Contains ys t → ⊥))
  difference_means first all second = elim (cases_Bool (has xs t)) [
    | inl e ↦ elim (cases_Bool (has ys t)) [
      | inl f ↦ ((λ h. absurd (false≢true (sym all ∙ sym (both true true e f) ∙ h))), (λ h. absurd (h.1 (has_in ys t f))))
      | inr f ↦ ((λ _. (has_in xs t e, not_in ys t f)), (λ _. both true false e f ∙ first))
    ]
    | inr e ↦ elim (cases_Bool (has ys t)) [
      | inl f ↦ ((λ h. absurd (false≢true (sym second ∙ sym (both false true e f) ∙ h))), (λ h. absurd (not_in xs t e h.0)))
      | inr f ↦ ((λ h. absurd (false≢true (sym (both false false e f) ∙ h))), (λ h. absurd (not_in xs t e h.0)))
    ]
  ]

-- a merge of the tuples of two sets
pub merged_made : {E : Type 0} (r : Result TupleList E) (n : ℕ) (xs ys : List (List ℕ)) (a b : TupleList) (kept : Kept) (P : List ℕ → Type 0) → n ≡ a.arity → xs ≡ a.tuples → ys ≡ b.tuples → IfOk r (λ s. s.arity ≡ n) → IfOk r (λ s. (t : List ℕ) → has s.tuples t ≡ keeps kept (has xs t) (has ys t)) → ((t : List ℕ) → (keeps kept (has a.tuples t) (has b.tuples t) ≡ true) ↔ P t) → IfOk r (λ s. HasJust s a.arity P)
merged_made r n xs ys a b kept P e f g columns truth means =
    just_made r a.arity P (λ t. keeps kept (has a.tuples t) (has b.tuples t))
    (subst (λ (m : ℕ). IfOk r (λ s. s.arity ≡ m)) e columns)
    (subst (λ (zs : List (List ℕ)). IfOk r (λ s. (t : List ℕ) → has s.tuples t ≡ keeps kept (has a.tuples t) (has zs t))) g
    (subst (λ (zs : List (List ℕ)). IfOk r (λ s. (t : List ℕ) → has s.tuples t ≡ keeps kept (has zs t) (has ys t))) f truth))
    means

-- the same by another test
pub truth_as : {E : Type 0} (r : Result TupleList E) (p q : List ℕ → Bool) → IfOk r (λ s. (t : List ℕ) → has s.tuples t ≡ p t) → ((t : List ℕ) → p t ≡ q t) → IfOk r (λ s. (t : List ℕ) → has s.tuples t ≡ q t)
truth_as (Ok s) p q truth same = λ t. truth t ∙ same t
truth_as (Err e) p q truth same = tt

-- a set of gathered tuples, of which each test is known
pub gathered_made : {E : Type 0} (r : Result TupleList E) (n arity : ℕ) (ts : List (List ℕ)) (P : List ℕ → Type 0) (q : (List ℕ → Bool) → Bool) → n ≡ arity → IfOk r (λ s. s.arity ≡ n) → IfOk r (λ s. (t : List ℕ) → has s.tuples t ≡ has ts t) → ((t : List ℕ) → list_any (λ y. is_same y t) ts ≡ q (λ y. is_same y t)) → ((t : List ℕ) → (q (λ y. is_same y t) ≡ true) ↔ P t) → IfOk r (λ s. HasJust s arity P)
gathered_made r n arity ts P q e columns truth tests means =
    just_made r arity P (λ t. q (λ y. is_same y t)) (subst (λ (m : ℕ). IfOk r (λ s. s.arity ≡ m)) e columns) (truth_as r (λ t. has ts t) (λ t. q (λ y. is_same y t)) truth tests) means
