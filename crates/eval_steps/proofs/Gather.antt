-- Sets that are gathered tuple by tuple.
use Rattle.std.proofs.Common.{◌≡◌, ◌↔◌, ◌⊎◌, ℕ, ◌+◌, ◌<◌, ◌≤◌, List, [], ◌∷◌, ◌++◌, length, take, get_or, Contains, inl, inr, sym, ap, ◌∙◌, subst, arith, take_all}
use Rattle.std.proofs.lemmas.List.{take_more}
use Rattle.std.proofs.lemmas.List.Elements.{Contains-append_left, Contains-push, Contains-push_cases}
use Rattle.std.specs.Prelude.{Result, OnOk}
use Rattle.std.proofs.lemmas.Result.{on_ok_weaker}
use Rattle.core_tuples.specs.Sets.{TupleList, In}
use Rattle.eval_sets.specs.SetOf.{IsSetOf, Gains, Gathers}

pub gathers_none : (set : TupleList) (G : List ℕ → List ℕ → Type 0) → ((t : List ℕ) → ¬ In t set) → Gathers set G []
gathers_none set G none = record { just = λ t. ((λ h. absurd (none t h)), (λ (s, c, g). absurd (nothing s c))) }
  where
    nothing : (s : List ℕ) → ¬ Contains [] s
    nothing s (k, lt, e) = omega arith

gathers_push : (old new : TupleList) (G : List ℕ → List ℕ → Type 0) (ys : List (List ℕ)) (s : List ℕ) → Gathers old G ys → Gains old new G s → Gathers new G (ys ++ s ∷ [])
gathers_push old new G ys s all gains = record { just = λ t. (to t, from t) }
  where
    to : (t : List ℕ) → In t new → (u : List ℕ) × Contains (ys ++ s ∷ []) u × G u t
    to t h = elim ((gains.just t).0 h) [
      | inl o ↦ let (u, c, g) = (all.just t).0 o in (u, Contains-append_left ys (s ∷ []) u c, g)
      | inr g ↦ (s, Contains-push ys s, g)
    ]

    from : (t : List ℕ) → ((u : List ℕ) × Contains (ys ++ s ∷ []) u × G u t) → In t new
    from t (u, c, g) = elim (Contains-push_cases ys s u c) [
      | inl c ↦ (gains.just t).1 (inl ((all.just t).1 (u, c, g)))
      | inr e ↦ (gains.just t).1 (inr (subst (λ (v : List ℕ). G v t) (sym e) g))
    ]

pub gathers_more : (old new : TupleList) (G : List ℕ → List ℕ → Type 0) (ts : List (List ℕ)) (k : ℕ) (s n : List ℕ) → k < length ts → s ≡ get_or ts k s → n ≡ s → Gathers old G (take k ts) → Gains old new G n → Gathers new G (take (k + 1) ts)
gathers_more old new G ts k s n lt at same all gains =
    let more : take (k + 1) ts ≡ take k ts ++ s ∷ [] = take_more ts k s lt ∙ ap (λ y. take k ts ++ y ∷ []) (sym at) in
    subst (λ ys. Gathers new G ys) (sym more) (gathers_push old new G (take k ts) s all (subst (λ (v : List ℕ). Gains old new G v) same gains))

pub gains_row : (old new : TupleList) (G : List ℕ → List ℕ → Type 0) (s row : List ℕ) → IsSetOf new (λ t. In t old ⊎ (t ≡ row)) → ((t : List ℕ) → (t ≡ row) ↔ G s t) → Gains old new G s
gains_row old new G s row has gives = record {
  just = λ t. (
    (λ h. elim ((has.just t).0 h) [ inl o ↦ inl o | inr e ↦ inr ((gives t).0 e) ]),
    (λ h. (has.just t).1 (elim h [ inl o ↦ inl o | inr g ↦ inr ((gives t).1 g) ])),
  );
}

pub gains_none : (old : TupleList) (G : List ℕ → List ℕ → Type 0) (s : List ℕ) → ((t : List ℕ) → ¬ G s t) → Gains old old G s
gains_none old G s none = record { just = λ t. ((λ h. inl h), (elim [ inl o ↦ o | inr g ↦ absurd (none t g) ])) }

pub gathered : (set all : TupleList) (G : List ℕ → List ℕ → Type 0) (ts : List (List ℕ)) (k : ℕ) (P : List ℕ → Type 0) → length ts ≤ k → ts ≡ set.tuples → Gathers all G (take k ts) → ((t : List ℕ) → ((s : List ℕ) × In s set × G s t) ↔ P t) → IsSetOf all P
gathered set all G ts k P over is h means =
    let whole : Gathers all G set.tuples = subst (λ ys. Gathers all G ys) (take_all k ts over ∙ is) h in
    record { just = λ t. ((λ x. (means t).0 ((whole.just t).0 x)), (λ p. (whole.just t).1 ((means t).1 p))) }

pub gains_put : {T E : Type 0} (r : Result T E) (old new : TupleList) (G : List ℕ → List ℕ → Type 0) (s row : List ℕ) → ((t : List ℕ) → (t ≡ row) ↔ G s t) → OnOk r (IsSetOf new (λ t. In t old ⊎ (t ≡ row))) → OnOk r (Gains old new G s)
gains_put r old new G s row gives = on_ok_weaker r (λ h. gains_row old new G s row h gives)
