-- What a relation is at all positions together.
use Rattle.std.proofs.Common.{◌≡◌, ◌≢◌, ◌⊎◌, ◌↔◌, ℕ, ◌+◌, ◌-◌, ◌%◌, ◌<◌, ◌≤◌, Bool, true, false, IsTrue, List, [], ◌∷◌, length, Contains, slice_get, inl, inr, refl, sym, ap, ◌∙◌, subst, arith}
use Rattle.std.proofs.lemmas.Bool.{cases_lt, cond_below, cond_above, false≢true}
use Rattle.std.proofs.Math.Nat.{mod-lt}
use Rattle.core_tree.specs.declared.operators.RelationOp.TheVariants.{Union}
use Rattle.core_meaning.specs.Sequence.{LassoValue, period, place_of}
use Rattle.core_meaning.specs.World.{World, InRelation}
use Rattle.core_meaning.specs.Operators.{combined_tuples, IsInside}
use Rattle.core_meaning.specs.Kept.{IsStatic}
use Rattle.core_tuples.specs.Sets.{TupleList, In}
use Rattle.eval_sets.specs.SetOf.{IsSetOf}
use Rattle.eval_scopes.specs.Asked.{IsEver}
use Rattle.core_window.specs.Repeats.{HasLoop}

-- ---- sets

pub united : (new all set : TupleList) (P : List ℕ → Type 0) → IsSetOf set P → IsSetOf new (combined_tuples Union (λ t. In t all) (λ t. In t set)) → IsSetOf new (λ t. In t all ⊎ P t)
united new all set P has made = record {
  just = λ t. (
    (λ h. elim ((made.just t).0 h) [ inl k ↦ inl k | inr k ↦ inr ((has.just t).0 k) ]),
    (λ h. (made.just t).1 (elim h [ inl k ↦ inl k | inr k ↦ inr ((has.just t).1 k) ])),
  );
}

pub as_before : (all : TupleList) (P : List ℕ → Type 0) → ((t : List ℕ) → ¬ P t) → IsSetOf all (λ t. In t all ⊎ P t)
as_before all P none = record { just = λ t. ((λ h. inl h), (elim [ inl h ↦ h | inr p ↦ absurd (none t p) ])) }

nothing_in : (ts : List (List ℕ)) → length ts ≡ 0 → (t : List ℕ) → ¬ Contains ts t
nothing_in ts e t (k, lt, f) = omega arith

first_in : (ts : List (List ℕ)) → length ts ≢ 0 → (t : List ℕ) × Contains ts t
first_in [] some = absurd (some refl)
first_in (t ∷ ts) some = (t, (0, omega arith, refl))

pub empty_yes : (set : TupleList) (n : ℕ) → n ≡ length set.tuples → n ≡ 0 → IsTrue true ↔ ((t : List ℕ) → ¬ In t set)
empty_yes set n is e = ((λ q. nothing_in set.tuples (sym is ∙ e)), (λ h. refl))

pub empty_no : (set : TupleList) (n : ℕ) → n ≡ length set.tuples → n ≢ 0 → IsTrue false ↔ ((t : List ℕ) → ¬ In t set)
empty_no set n is some = (
  (λ q. absurd (false≢true q)),
  (λ h. let (t, k) = first_in set.tuples (λ e. some (is ∙ e)) in absurd (h t k)),
)

pub inside_set : (b : Bool) (all set : TupleList) (P : List ℕ → Type 0) → IsSetOf set P → IsTrue b ↔ ((t : List ℕ) → In t all → In t set) → IsTrue b ↔ IsInside (λ t. In t all) P
inside_set b all set P has h = ((λ q t k. (has.just t).0 (h.0 q t k)), (λ f. h.1 (λ t k. (has.just t).1 (f t k))))

pub inside_none : (b : Bool) (all : TupleList) (P : List ℕ → Type 0) → ((t : List ℕ) → ¬ P t) → IsTrue b ↔ ((t : List ℕ) → ¬ In t all) → IsTrue b ↔ IsInside (λ t. In t all) P
inside_none b all P none h = ((λ q t k. absurd (h.0 q t k)), (λ f. h.1 (λ t k. none t (f t k))))

-- ---- positions

place_low : (lasso : LassoValue) (i : ℕ) → HasLoop lasso → place_of lasso i < length lasso.states
place_low lasso i some =
    elim (cases_lt i (length lasso.states)) [
      | inl early ↦ subst (λ (n : ℕ). n < length lasso.states) (cond_below i (length lasso.states) i (lasso.loop_start + (i - lasso.loop_start) % period lasso) early) early
      | inr past ↦
          let low : (i - lasso.loop_start) % period lasso < period lasso = mod-lt (i - lasso.loop_start) (omega arith) in
          let below : lasso.loop_start + (i - lasso.loop_start) % period lasso < length lasso.states = omega arith in
          subst (λ (n : ℕ). n < length lasso.states) (cond_above i (length lasso.states) i _ _ past refl) below
    ]

place_twice : (lasso : LassoValue) (i : ℕ) → HasLoop lasso → place_of lasso (place_of lasso i) ≡ place_of lasso i
place_twice lasso i some = sym (cond_below (place_of lasso i) (length lasso.states) (place_of lasso i) (lasso.loop_start + (place_of lasso i - lasso.loop_start) % period lasso) (place_low lasso i some))

pub loop_of : (l m : LassoValue) (n : ℕ) → l ≡ m → n ≡ length l.states → l.loop_start < n → HasLoop m
loop_of l m n same count some = subst (λ (z : LassoValue). HasLoop z) same (let e : l.loop_start < length l.states = omega arith in e)

pub count_of : (l m : LassoValue) (n : ℕ) → l ≡ m → n ≡ length l.states → n ≡ length m.states
count_of l m n same count = count ∙ ap (λ (z : LassoValue). length z.states) same

module _ (w : World) (k : ℕ) where
  shown : (i : ℕ) (t : List ℕ) → HasLoop w.lasso → InRelation w k i t → InRelation w k (place_of w.lasso i) t
  shown i t some (state, set, e, f, c) = (state, set, ap (slice_get w.lasso.states) (place_twice w.lasso i some) ∙ e, f, c)

  shows : (i : ℕ) (t : List ℕ) → HasLoop w.lasso → InRelation w k (place_of w.lasso i) t → InRelation w k i t
  shows i t some (state, set, e, f, c) = (state, set, ap (slice_get w.lasso.states) (sym (place_twice w.lasso i some)) ∙ e, f, c)

  -- at some position before one
  abbrev pub Until : ℕ → List ℕ → Type 0
  Until n t = (i : ℕ) × (i < n) × InRelation w k i t

  pub until_none : (all : TupleList) → IsSetOf all (λ _. ⊥) → IsSetOf all (Until 0)
  until_none all none = record { just = λ t. ((λ h. absurd ((none.just t).0 h)), (λ (i, lt, r). absurd (omega arith))) }

  pub until_more : (n : ℕ) (old new : TupleList) → IsSetOf old (Until n) → IsSetOf new (λ t. In t old ⊎ InRelation w k n t) → IsSetOf new (Until (n + 1))
  until_more n old new has made = record { just = λ t. ((λ h. to t ((made.just t).0 h)), (λ r. (made.just t).1 (from t r))) }
    where
      to : (t : List ℕ) → (In t old ⊎ InRelation w k n t) → Until (n + 1) t
      to t (inl h) = let (i, lt, r) = (has.just t).0 h in (i, (let more : i < n + 1 = omega arith in more), r)
      to t (inr r) = (n, (let more : n < n + 1 = omega arith in more), r)

      from : (t : List ℕ) → Until (n + 1) t → In t old ⊎ InRelation w k n t
      from t (i, lt, r) = elim (cases_lt i n) [
        | inl below ↦ inl ((has.just t).1 (i, below, r))
        | inr at ↦ let e : i ≡ n = omega arith in inr (subst (λ (j : ℕ). InRelation w k j t) e r)
      ]

  pub until_all : (n : ℕ) (all : TupleList) → HasLoop w.lasso → length w.lasso.states ≤ n → IsSetOf all (Until n) → IsSetOf all (IsEver w k)
  until_all n all some over has = record {
    just = λ t. (
      (λ h. let (i, lt, r) = (has.just t).0 h in (i, r)),
      (λ (i, r). (has.just t).1 (place_of w.lasso i, (let low = place_low w.lasso i some in let lt : place_of w.lasso i < n = omega arith in lt), shown i t some r)),
    );
  }

  pub same_no : (b : Bool) (all : TupleList) (p : ℕ) → IsSetOf all (IsEver w k) → b ≡ false → IsTrue b ↔ IsInside (λ t. In t all) (InRelation w k p) → IsTrue false ↔ IsStatic w k
  same_no b all p ever off h = (
    (λ q. absurd (false≢true q)),
    (λ still. absurd (false≢true (sym off ∙ h.1 (λ t m. let (i, r) = (ever.just t).0 m in still i p t r)))),
  )

  pub same_yes : (all : TupleList) (n : ℕ) → HasLoop w.lasso → length w.lasso.states ≤ n → IsSetOf all (IsEver w k) → ((p : ℕ) → p < n → IsInside (λ t. In t all) (InRelation w k p)) → IsTrue true ↔ IsStatic w k
  same_yes all n some over ever each = (
    (λ q i j t r.
        let low = place_low w.lasso j some in
        let lt : place_of w.lasso j < n = omega arith in
        shows j t some (each (place_of w.lasso j) lt t ((ever.just t).1 (i, r)))),
    (λ still. refl),
  )

  pub each_more : (b : Bool) (all : TupleList) (n : ℕ) → b ≡ true → IsTrue b ↔ IsInside (λ t. In t all) (InRelation w k n) → ((p : ℕ) → p < n → IsInside (λ t. In t all) (InRelation w k p)) → (p : ℕ) → p < n + 1 → IsInside (λ t. In t all) (InRelation w k p)
  each_more b all n on h each p lt = elim (cases_lt p n) [
    | inl below ↦ each p below
    | inr at ↦ let e : n ≡ p = omega arith in subst (λ (j : ℕ). IsInside (λ t. In t all) (InRelation w k j)) e (h.0 on)
  ]

  pub var_stays : (b : Bool) → b ≡ true → IsTrue true ↔ (b ≡ false → IsStatic w k)
  var_stays b on = ((λ q off. absurd (false≢true (sym off ∙ on))), (λ h. refl))

  pub fixed_stays : (b r : Bool) → b ≡ false → IsTrue r ↔ IsStatic w k → IsTrue r ↔ (b ≡ false → IsStatic w k)
  fixed_stays b r off h = ((λ q e. h.0 q), (λ f. h.1 (f off)))
