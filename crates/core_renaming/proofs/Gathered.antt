-- Lists of tuples as sorted sets, and lists that go item by item with another.
use Rattle.std.proofs.Common.{◌≡◌, ◌↔◌, ◌⊎◌, inl, inr, ℕ, zero, suc, ◌<◌, ◌≤◌, List, [], ◌∷◌, length, Contains, All, get_or, Some, slice_get, refl, sym, ap, ◌∙◌, subst, arith}
use Rattle.std.specs.declared.cmp.Ordering.{Ordering}
use Rattle.std.specs.declared.cmp.Ordering.TheVariants.{Less, Equal, Greater}
use Rattle.std.specs.List.{insert}
use Rattle.std.specs.List.Sorted.{IsStrictlySortedBy}
use Rattle.std.proofs.lemmas.Map.Keys.{sorted_tail}
use Rattle.core_tuples.specs.Index.{IsNumber}
use Rattle.core_tuples.specs.Sets.{TupleList, tuple_cmp, IsTupleSet, IsGap}
use Rattle.core_tuples.proofs.OrderLemmas.{cons_cases, cons_here, cons_later, same_tuple, all_above, insert_cases, insert_kept, set_insert}

-- ---- sorted sets

gap_later : (x : List ℕ) (ts : List (List ℕ)) (t : List ℕ) (i : ℕ) → tuple_cmp x t ≡ Less → IsGap ts t i → IsGap (x ∷ ts) t (suc i)
gap_later x ts t i less gap = record {
  bound = let low = gap.bound in omega (arith, low);
  before = earlier;
  after = later;
}
  where
    earlier : (k : ℕ) (d : List ℕ) → 0 ≤ k → k < suc i → tuple_cmp (get_or (x ∷ ts) k d) t ≡ Less
    earlier zero d low high = less
    earlier (suc k) d low high = gap.before k d (omega arith) (omega (arith, high))

    later : (k : ℕ) (d : List ℕ) → suc i ≤ k → k < length (x ∷ ts) → tuple_cmp (get_or (x ∷ ts) k d) t ≡ Greater
    later zero d low high = absurd (omega (arith, low))
    later (suc k) d low high = gap.after k d (omega (arith, low)) (omega (arith, high))

-- a tuple stands in a sorted list, or has a gap there
placed : (ts : List (List ℕ)) → IsStrictlySortedBy tuple_cmp ts → (t : List ℕ) → Contains ts t ⊎ ((i : ℕ) × IsGap ts t i)
placed [] sorted t = inr (0, record { bound = omega arith; before = λ k d low high. absurd (omega (arith, high)); after = λ k d low high. absurd (omega (arith, high)) })
placed (x ∷ ts) sorted t = go (tuple_cmp x t) refl (placed ts (sorted_tail tuple_cmp x ts sorted) t)
  where
    go : (o : Ordering) → tuple_cmp x t ≡ o → Contains ts t ⊎ ((i : ℕ) × IsGap ts t i) → Contains (x ∷ ts) t ⊎ ((i : ℕ) × IsGap (x ∷ ts) t i)
    go Less is (inl there) = inl (cons_later x ts t there)
    go Less is (inr (i, gap)) = inr (suc i, gap_later x ts t i is gap)
    go Equal is rest = inl (cons_here x ts t (sym (same_tuple x t is)))
    go Greater is rest = inr (
      0,
      record {
        bound = omega arith;
        before = λ k d low high. absurd (omega (arith, high));
        after = all_above (x ∷ ts) t 0 sorted (omega arith) (λ d. is);
      },
    )

-- a set with just the tuples of a list
abbrev pub IsGathered : ℕ → List (List ℕ) → TupleList → Type 0
IsGathered arity ts set = IsTupleSet set × (set.arity ≡ arity) × ((t : List ℕ) → Contains set.tuples t ↔ Contains ts t)

nothing_sorted : IsStrictlySortedBy tuple_cmp []
unfolding IsStrictlySortedBy
nothing_sorted = tt

no_tuples : (arity : ℕ) → 1 ≤ arity → arity ≤ 9 → IsTupleSet (record { arity = arity; tuples = [] })
no_tuples arity least most = record {
  least = least;
  most = most;
  columns = λ k d lt. absurd (omega (arith, lt));
  numbers = λ k d lt. absurd (omega (arith, lt));
  sorted = nothing_sorted;
}

pub gathered : (arity : ℕ) → 1 ≤ arity → arity ≤ 9 → (ts : List (List ℕ)) → All (λ t. length t ≡ arity) ts → All (λ t. All IsNumber t) ts → (set : TupleList) × IsGathered arity ts set
gathered arity least most [] columns numbers = (record { arity = arity; tuples = [] }, (no_tuples arity least most, refl, (λ t. ((λ c. c), (λ c. c)))))
gathered arity least most (t ∷ ts) columns numbers =
    let (set, all) = gathered arity least most ts (λ k d lt. columns (suc k) d (omega (arith, lt))) (λ k d lt. numbers (suc k) d (omega (arith, lt))) in
    go set all.0 all.1 all.2 (placed set.tuples all.0.sorted t)
  where
    go : (set : TupleList) → IsTupleSet set → set.arity ≡ arity → ((u : List ℕ) → Contains set.tuples u ↔ Contains ts u) → Contains set.tuples t ⊎ ((i : ℕ) × IsGap set.tuples t i) → (s : TupleList) × IsGathered arity (t ∷ ts) s
    go set is same just (inl there) = (
      set,
      (
        is,
        same,
        (λ u. (
          (λ c. cons_later t ts u ((just u).0 c)),
          (λ c. elim (cons_cases t ts u c) [ inl e ↦ subst (λ v. Contains set.tuples v) (sym e) there | inr more ↦ (just u).1 more ]),
        )),
      ),
    )
    go set is same just (inr (i, gap)) = (
      record { arity = set.arity; tuples = insert set.tuples i t },
      (
        set_insert set.arity set.tuples t i is (columns 0 t (omega arith) ∙ sym same) (numbers 0 t (omega arith)) gap,
        same,
        (λ u. (
          (λ c. elim (insert_cases set.tuples t i u c) [ inl old ↦ cons_later t ts u ((just u).0 old) | inr e ↦ cons_here t ts u e ]),
          (λ c. insert_kept set.tuples t i u (elim (cons_cases t ts u c) [ inl e ↦ inr e | inr more ↦ inl ((just u).1 more) ])),
        )),
      ),
    )

-- ---- item by item

module _ {X : Type 0} (R : X → X → Type 0) where
  abbrev pub Pairs : List X → List X → Type 0
  Pairs [] [] = Unit {0}
  Pairs (x ∷ xs) (y ∷ ys) = R x y × Pairs xs ys
  Pairs xs ys = ⊥

  pub paired : (xs : List X) → ((k : ℕ) (x : X) → slice_get xs k ≡ Some x → (y : X) × R x y) → (ys : List X) × Pairs xs ys
  paired [] each = ([], tt)
  paired (x ∷ xs) each =
      let (y, one) = each 0 x refl in
      let (ys, others) = paired xs (λ k z get. each (suc k) z get) in
      (y ∷ ys, (one, others))

  pub paired_length : (xs ys : List X) → Pairs xs ys → length ys ≡ length xs
  paired_length [] [] pairs = refl
  paired_length (x ∷ xs) (y ∷ ys) pairs = ap suc (paired_length xs ys pairs.1)
  paired_length [] (y ∷ ys) pairs = elim pairs [ ]
  paired_length (x ∷ xs) [] pairs = elim pairs [ ]

  pub second_there : (xs ys : List X) → Pairs xs ys → (k : ℕ) (x : X) → slice_get xs k ≡ Some x → (y : X) × (slice_get ys k ≡ Some y) × R x y
  second_there [] ys pairs k x get = cc
  second_there (x ∷ xs) [] pairs k z get = elim pairs [ ]
  second_there (x ∷ xs) (y ∷ ys) pairs zero z get = let same : x ≡ z = cc in (y, refl, subst (λ v. R v y) same pairs.0)
  second_there (x ∷ xs) (y ∷ ys) pairs (suc k) z get = second_there xs ys pairs.1 k z get

  pub first_there : (xs ys : List X) → Pairs xs ys → (k : ℕ) (y : X) → slice_get ys k ≡ Some y → (x : X) × (slice_get xs k ≡ Some x) × R x y
  first_there xs [] pairs k y get = cc
  first_there [] (y ∷ ys) pairs k z get = elim pairs [ ]
  first_there (x ∷ xs) (y ∷ ys) pairs zero z get = let same : y ≡ z = cc in (x, refl, subst (λ v. R x v) same pairs.0)
  first_there (x ∷ xs) (y ∷ ys) pairs (suc k) z get = first_there xs ys pairs.1 k z get

pub all_get : {X : Type 0} (P : X → Type 0) (xs : List X) → ((k : ℕ) (x : X) → slice_get xs k ≡ Some x → P x) → All P xs
all_get P [] each k d lt = absurd (omega (arith, lt))
all_get P (x ∷ xs) each zero d lt = each 0 x refl
all_get P (x ∷ xs) each (suc k) d lt = all_get P xs (λ j z get. each (suc j) z get) k d (omega (arith, lt))
