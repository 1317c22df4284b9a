-- What the index has: of each atom just the tuples that have it, in order.
use Rattle.std.proofs.Common.{◌≡◌, inl, inr, ℕ, zero, suc, ◌+◌, ◌<◌, ◌≤◌, Bool, true, false, List, [], ◌∷◌, ◌++◌, length, get_or, slice_get, Some, All, Contains, refl, ap, sym, ◌∙◌, subst, arith}
use Rattle.std.proofs.lemmas.Bool.{cases_lt}
use Rattle.std.proofs.lemmas.List.Elements.{All-nil, All-cons, All-head, All-tail, All-append, All-weaker, Contains-append_left, Contains-append_right}
use Rattle.core_tuples.proofs.OrderLemmas.{cons_here, cons_later}
use Rattle.bound_uppers.specs.declared.table.Bound.{Bound}
use Rattle.bound_uppers.specs.declared.table.Bounds.{Bounds}
use Rattle.bound_uppers.specs.Table.{IsTable, keep}
use Rattle.bound_naming.specs.declared.spots.Spot.{Spot}
use Rattle.bound_naming.specs.Reckoned.{has_atom, Grow, spots_in, IsSpot, Precedes, AreOrdered, AreSpots, IsIndex}

abbrev spot_at : ℕ → ℕ → ℕ → Spot
spot_at order r place = record { order = order; relation = r; place = place }

-- ---- the tuples of one relation

kept_all : (P : Spot → Type 0) (b : Bool) (s : Spot) (rest : List Spot) → P s → All P rest → All P (keep b s rest)
kept_all P true s rest here all = All-cons P s rest here all
kept_all P false s rest here all = all

kept_here : (b : Bool) (s : Spot) (rest : List Spot) (x : Spot) → b ≡ true → x ≡ s → Contains (keep b s rest) x
kept_here true s rest x on is = cons_here s rest x is
kept_here false s rest x on is = cc

kept_later : (b : Bool) (s : Spot) (rest : List Spot) (x : Spot) → Contains rest x → Contains (keep b s rest) x
kept_later true s rest x among = cons_later s rest x among
kept_later false s rest x among = among

kept_ordered : (b : Bool) (s : Spot) (rest : List Spot) → All (Precedes s) rest → AreOrdered rest → AreOrdered (keep b s rest)
kept_ordered true s rest all ordered = (all, ordered)
kept_ordered false s rest all ordered = ordered

spots_all : (P : Spot → Type 0) (a order r p : ℕ) (ts : List (List ℕ)) → ((k : ℕ) → k < length ts → P (spot_at order r (p + k))) → All P (spots_in a order r p ts)
spots_all P a order r p [] each = All-nil P
spots_all P a order r p (t ∷ ts) each =
    let first : p + 0 ≡ p = omega arith in
    kept_all P (has_atom a t) (spot_at order r p) (spots_in a order r (suc p) ts)
    (subst (λ (m : ℕ). P (spot_at order r m)) first (each 0 (omega arith)))
    (spots_all P a order r (suc p) ts (λ k lt. let next : p + suc k ≡ suc p + k = omega arith in subst (λ (m : ℕ). P (spot_at order r m)) next (each (suc k) (omega (arith, lt)))))

spots_ordered : (a order r p : ℕ) (ts : List (List ℕ)) → AreOrdered (spots_in a order r p ts)
spots_ordered a order r p [] = tt
spots_ordered a order r p (t ∷ ts) =
    kept_ordered (has_atom a t) (spot_at order r p) (spots_in a order r (suc p) ts)
    (spots_all (Precedes (spot_at order r p)) a order r (suc p) ts (λ k lt. inr (refl, omega arith)))
    (spots_ordered a order r (suc p) ts)

spots_every : (a order r p k : ℕ) (ts : List (List ℕ)) (t : List ℕ) → slice_get ts k ≡ Some t → has_atom a t ≡ true → Contains (spots_in a order r p ts) (spot_at order r (p + k))
spots_every a order r p k [] t at on = cc
spots_every a order r p zero (u ∷ ts) t at on =
    let is : t ≡ u = cc in
    let first : p + 0 ≡ p = omega arith in
    kept_here (has_atom a u) (spot_at order r p) (spots_in a order r (suc p) ts) (spot_at order r (p + 0)) (ap (has_atom a) (sym is) ∙ on) (ap (λ (m : ℕ). spot_at order r m) first)
spots_every a order r p (suc k) (u ∷ ts) t at on =
    let next : suc p + k ≡ p + suc k = omega arith in
    subst (λ (m : ℕ). Contains (spots_in a order r p (u ∷ ts)) (spot_at order r m)) next
    (kept_later (has_atom a u) (spot_at order r p) (spots_in a order r (suc p) ts) (spot_at order r (suc p + k)) (spots_every a order r (suc p) k ts t at on))

-- ---- relation by relation

ordered_append : (xs ys : List Spot) → AreOrdered xs → AreOrdered ys → All (λ s. All (Precedes s) ys) xs → AreOrdered (xs ++ ys)
ordered_append [] ys one two across = two
ordered_append (x ∷ xs) ys one two across = (
  All-append (Precedes x) xs ys one.0 (All-head (λ s. All (Precedes s) ys) x xs across),
  ordered_append xs ys one.1 two (All-tail (λ s. All (Precedes s) ys) x xs across),
)

spots_more : (bounds : Bounds) (a n r : ℕ) (b : Bound) (old : List Spot) → IsTable bounds → slice_get bounds.relations r ≡ Some b → b.order ≡ n → AreSpots bounds.relations a n old → AreSpots bounds.relations a (n + 1) (old ++ spots_in a n r 0 b.upper.tuples)
spots_more bounds a n r b old table at here was =
    let bs : List Bound = bounds.relations in
    let ts : List (List ℕ) = b.upper.tuples in
    record {
      each = All-append (λ s. IsSpot bs s × (s.order < n + 1)) old (spots_in a n r 0 ts)
          (All-weaker (λ s. IsSpot bs s × (s.order < n)) (λ s. IsSpot bs s × (s.order < n + 1)) (λ s h. (h.0, (let lt = h.1 in omega (arith, lt)))) old was.each)
          (spots_all (λ s. IsSpot bs s × (s.order < n + 1)) a n r 0 ts (λ k lt. ((b, at, sym here, omega (arith, lt)), omega arith)));
      ordered = ordered_append old (spots_in a n r 0 ts) was.ordered (spots_ordered a n r 0 ts)
          (All-weaker (λ s. IsSpot bs s × (s.order < n)) (λ s. All (Precedes s) (spots_in a n r 0 ts)) (λ s h. spots_all (Precedes s) a n r 0 ts (λ k lt. inl h.1)) old was.each);
      every = λ q place c t there low get on. elim (cases_lt c.order n) [
        | inl less ↦ Contains-append_left old (spots_in a n r 0 ts) (spot_at c.order q place) (was.every q place c t there less get on)
        | inr far ↦
            let same : c.order ≡ n = omega (arith, far, low) in
            let one : r ≡ q = table.apart r q b c at there (here ∙ sym same) in
            let it : b ≡ c = cc in
            let all : Contains (spots_in a n r 0 ts) (spot_at n r (0 + place)) = spots_every a n r 0 place ts t (subst (λ (x : Bound). slice_get x.upper.tuples place ≡ Some t) (sym it) get) on in
            let from : 0 + place ≡ place = omega arith in
            let is : spot_at n r (0 + place) ≡ spot_at c.order q place = ap (λ (m : ℕ). spot_at n r m) from ∙ (ap (λ (m : ℕ). spot_at n m place) one ∙ ap (λ (m : ℕ). spot_at m q place) (sym same)) in
            Contains-append_right old (spots_in a n r 0 ts) (spot_at c.order q place) (subst (λ (s : Spot). Contains (spots_in a n r 0 ts) s) is all)
      ];
    }

-- ---- the index

pub index_none : (bounds : Bounds) (bs : List Bound) (atoms : ℕ) (lists : List (List Spot)) → length lists ≡ atoms → ((a : ℕ) → get_or lists a [] ≡ []) → IsTable bounds → IsIndex bounds.relations atoms 0 lists
index_none bounds bs atoms lists count none table = record {
  count = count;
  each = λ a lt. subst (λ (ss : List Spot). AreSpots bounds.relations a 0 ss) (sym (none a)) (record {
    each = All-nil (λ s. IsSpot bounds.relations s × (s.order < 0));
    ordered = tt;
    every = λ r place b t at low get on. absurd (omega (arith, low));
  });
}

pub index_more : (bounds : Bounds) (bs : List Bound) (atoms n r : ℕ) (old new : List (List Spot)) → bs ≡ bounds.relations → ((b : Bound) × (slice_get bs r ≡ Some b) × (b.order ≡ n) × Grow old new (λ a. spots_in a n r 0 b.upper.tuples)) → (IsTable bounds → IsIndex bounds.relations atoms n old) → IsTable bounds → IsIndex bounds.relations atoms (n + 1) new
index_more bounds bs atoms n r old new are grown before table =
    let was = before table in
    let b : Bound = grown.0 in
    let at : slice_get bounds.relations r ≡ Some b = subst (λ (xs : List Bound). slice_get xs r ≡ Some b) are grown.1 in
    let count = was.count in
    record {
      count = grown.3.0 ∙ was.count;
      each = λ a lt.
          subst (λ (ss : List Spot). AreSpots bounds.relations a (n + 1) ss) (sym (grown.3.1 a (omega (arith, lt, count))))
          (spots_more bounds a n r b (get_or old a []) table at grown.2 (was.each a lt));
    }

pub index_all : (bounds : Bounds) (bs : List Bound) (atoms n : ℕ) (lists : List (List Spot)) → bs ≡ bounds.relations → length bs ≤ n → n ≤ length bs → (IsTable bounds → IsIndex bounds.relations atoms n lists) → IsTable bounds → IsIndex bounds.relations atoms (length bounds.relations) lists
index_all bounds bs atoms n lists are low high was table =
    let same : n ≡ length bounds.relations = (let e = ap length are in omega (arith, low, high, e)) in
    subst (λ (m : ℕ). IsIndex bounds.relations atoms m lists) same (was table)
