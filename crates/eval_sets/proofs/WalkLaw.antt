-- A closure by rounds.
use Rattle.std.proofs.Common.{◌≡◌, ◌≢◌, ◌⊎◌, ℕ, ◌+◌, ◌-◌, List, [], ◌∷◌, ◌++◌, length, inl, inr, refl, sym, ap, ◌∙◌, subst, arith, get_or, length-append}
use Rattle.core_tuples.specs.Sets.{TupleList, In, IsTupleSet, HasJust, IsJoined}
use Rattle.core_meaning.specs.Operators.{Walk, last_step, step, closure_tuples}
use Rattle.eval_sets.specs.SetOf.{IsSetOf}
use Rattle.eval_sets.proofs.Members.{listed_or, has_columns, none_in, one_number}

-- some walks along a were gathered, and among them those to which a step is yet to be put in front
pub record IsPartly (a all found : TupleList) : Type 0 where
  pub all_pairs : all.arity ≡ 2
  pub found_pairs : found.arity ≡ 2
  pub sound : (t : List ℕ) → In t all → closure_tuples (λ u. In u a) t
  pub first : (x y : ℕ) → In (x ∷ y ∷ []) a → In (x ∷ y ∷ []) all
  pub among : (t : List ℕ) → In t found → In t all
  pub onward : (x y z : ℕ) → In (x ∷ y ∷ []) a → In (y ∷ z ∷ []) all → In (x ∷ z ∷ []) all ⊎ In (y ∷ z ∷ []) found

two_numbers : (t : List ℕ) → length t ≡ 2 → (x y : ℕ) × (t ≡ x ∷ y ∷ [])
two_numbers [] e = absurd (omega arith)
two_numbers (x ∷ []) e = absurd (omega arith)
two_numbers (x ∷ y ∷ []) e = (x, y, refl)
two_numbers (x ∷ y ∷ z ∷ t) e = absurd (omega arith)

pub partly_start : (a all found : TupleList) → a.arity ≡ 2 → IsTupleSet a → all ≡ a → found ≡ a → IsPartly a all found
partly_start a all found pairs is same again = subst (λ (s : TupleList). IsPartly a s found) (sym same) (subst (λ (s : TupleList). IsPartly a a s) (sym again) (record {
  all_pairs = pairs;
  found_pairs = pairs;
  sound = λ t i. let (x, y, e) = two_numbers t (has_columns a t is i ∙ pairs) in (x, y, last_step (subst (λ (v : List ℕ). In v a) e i), e);
  first = λ x y i. i;
  among = λ t i. i;
  onward = λ x y z i j. inr j;
}))

-- a walk that a step in front makes longer
longer_walk : (a : TupleList) (y x : ℕ) (t u : List ℕ) → In (y ∷ x ∷ []) a → closure_tuples (λ v. In v a) (x ∷ u) → t ≡ y ∷ u → closure_tuples (λ v. In v a) t
longer_walk a y x t u here (p, q, walk, e) is =
    let same : p ≡ x = cc in
    let rest : u ≡ q ∷ [] = cc in
    (y, q, step {a = y} {b = x} {c = q} here (subst (λ (k : ℕ). Walk (λ v. In v a) k q) same walk), is ∙ ap (λ (v : List ℕ). y ∷ v) rest)

module _ (a all found longer fresh next : TupleList) (pairs : a.arity ≡ 2) (is : IsTupleSet a) (partly : IsPartly a all found) (is_longer : HasJust longer (a.arity + found.arity - 2) (IsJoined a found)) (is_fresh : HasJust fresh longer.arity (λ t. In t longer × (¬ In t all))) (is_next : HasJust next all.arity (λ t. In t all ⊎ In t fresh)) where
  joined_walk : (t : List ℕ) → IsJoined a found t → closure_tuples (λ u. In u a) t
  joined_walk t (s, u, x, here, there, e) =
      let long : length (s ++ x ∷ []) ≡ 2 = has_columns a (s ++ x ∷ []) is here ∙ pairs in
      let one : s ≡ get_or s 0 0 ∷ [] = one_number s (omega (arith, length-append s (x ∷ []))) in
      longer_walk a (get_or s 0 0) x t u
      (subst (λ (v : List ℕ). In (v ++ x ∷ []) a) one here)
      (partly.sound (x ∷ u) (partly.among (x ∷ u) there))
      (e ∙ ap (λ (v : List ℕ). v ++ u) one)

  fresh_walk : (t : List ℕ) → In t fresh → closure_tuples (λ u. In u a) t
  fresh_walk t i = joined_walk t ((is_longer.just t).0 ((is_fresh.just t).0 i).0)

  onward_more : (x y z : ℕ) → In (x ∷ y ∷ []) a → In (y ∷ z ∷ []) next → In (x ∷ z ∷ []) next ⊎ In (y ∷ z ∷ []) fresh
  onward_more x y z here there = elim ((is_next.just (y ∷ z ∷ [])).0 there) [
    | inl old ↦ elim (partly.onward x y z here old) [
      | inl i ↦ inl ((is_next.just (x ∷ z ∷ [])).1 (inl i))
      | inr f ↦ inl ((is_next.just (x ∷ z ∷ [])).1 (elim (listed_or all.tuples (x ∷ z ∷ [])) [
        | inl i ↦ inl i
        | inr n ↦ inr ((is_fresh.just (x ∷ z ∷ [])).1 ((is_longer.just (x ∷ z ∷ [])).1 (x ∷ [], z ∷ [], y, here, f, refl), n))
      ]))
    ]
    | inr new ↦ inr new
  ]

  pub partly_more : IsPartly a next fresh
  partly_more = record {
    all_pairs = is_next.columns ∙ partly.all_pairs;
    found_pairs = is_fresh.columns ∙ is_longer.columns ∙ omega (arith, pairs, partly.found_pairs);
    sound = λ t i. elim ((is_next.just t).0 i) [ inl old ↦ partly.sound t old | inr new ↦ fresh_walk t new ];
    first = λ x y i. (is_next.just (x ∷ y ∷ [])).1 (inl (partly.first x y i));
    among = λ t i. (is_next.just t).1 (inr i);
    onward = onward_more;
  }

module _ (a all found : TupleList) (partly : IsPartly a all found) (none : length found.tuples ≡ 0) where
  reached : (x y : ℕ) → Walk (λ t. In t a) x y → In (x ∷ y ∷ []) all
  reached x y (last_step s) = partly.first x y s
  reached x y (step {b = m} s w) = elim (partly.onward x m y s (reached m y w)) [ inl i ↦ i | inr f ↦ absurd (none_in found (m ∷ y ∷ []) none f) ]

  pub partly_done : IsSetOf all (closure_tuples (λ t. In t a))
  partly_done = record {
    just = λ t. (partly.sound t, (λ (x, y, walk, e). subst (λ (v : List ℕ). In v all) (sym e) (reached x y walk)));
  }

first_step : (a : TupleList) (x y : ℕ) → Walk (λ t. In t a) x y → (z : ℕ) × In (x ∷ z ∷ []) a
first_step a x y (last_step s) = (y, s)
first_step a x y (step {b = m} s w) = (m, s)

-- a relation of other columns has no walk
pub no_walk : (a s : TupleList) → IsTupleSet a → a.arity ≢ 2 → IsSetOf s (λ _. ⊥) → IsSetOf s (closure_tuples (λ t. In t a))
no_walk a s is other none = record {
  just = λ t. (
    (λ h. absurd ((none.just t).0 h)),
    (λ (x, y, walk, e). let (z, i) = first_step a x y walk in absurd (other (sym (has_columns a (x ∷ z ∷ []) is i)))),
  );
}
