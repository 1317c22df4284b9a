-- A set with a list has a number of tuples and stands for an integer, and a sum over such sets has a value.
use Rattle.std.specs.Prelude.{◌≡◌, ◌≢◌, ℕ, List, [], ◌∷◌, map, length, Contains, All, ℤ, pos, negsuc, ◌<ℤ◌}
use Rattle.std.proofs.Common.{inl, inr, refl, sym, ap, subst, ◌∙◌, arith}
use Rattle.std.proofs.lemmas.Int.{ints, by_lt_z}
use Rattle.std.proofs.lemmas.List.Elements.{All-cons, All-contains, All-contains_itself, All-weaker}
use Rattle.std.proofs.lemmas.List.Kept.{AllPairs-cons}
use Rattle.core_tree.specs.declared.operators.Comparison.{Comparison}
use Rattle.core_tree.specs.declared.operators.Comparison.TheVariants.{Equal, Less, AtMost, Greater, AtLeast}
use Rattle.core_meaning.specs.Integers.{wrap, sum_of}
use Rattle.core_meaning.specs.World.{World, atom_of, integer_of, IsInteger}
use Rattle.core_meaning.specs.Operators.{Tuples, IsListOf, IsCount, IsNumber, IsSumOver, IsLess, Compares}
use Rattle.core_laws.specs.Listed.{AreOnce}
use Rattle.core_laws.proofs.ListedLemmas.{once, same_sum}
use Rattle.core_laws.proofs.UniqueLemmas.{number_once}
use Rattle.core_decided.specs.Decided.{IsDecided, IsListed}
use Rattle.core_decided.proofs.Listing.{decided_by, decided_not, decided_nat, decided_list, none_there, here, later, there, listed_by, listed_one, listed_that}
use Rattle.core_decided.proofs.Cutting.{listed_atoms}
use Rattle.core_decided.proofs.Combining.{decided_integer}

module _ {X : Type 0} (same : (x y : X) → IsDecided (x ≡ y)) where
  decided_member : (xs : List X) (x : X) → IsDecided (Contains xs x)
  decided_member [] x = inr none_there
  decided_member (y ∷ xs) x = elim (same y x) [
    | inl e ↦ inl (subst (λ v. Contains (y ∷ xs) v) e (here y xs))
    | inr n ↦ decided_by (later y xs x) (λ c. elim (there y xs x c) [ inl e ↦ absurd (n e) | inr d ↦ d ]) (decided_member xs x)
  ]

  -- the list without repeats
  one_each : (xs : List X) → (ys : List X) × IsListOf (Contains xs) ys
  one_each [] = ([], record { distinct = λ i j d low lt. absurd (omega arith); all_and_only = λ x. ((λ c. c), (λ c. c)) })
  one_each (x ∷ xs) =
      let (ys, l) = one_each xs in
      elim (decided_member ys x) [
        | inl c ↦ (
          ys,
          record {
            distinct = l.distinct;
            all_and_only = λ z. (
              (λ d. later x xs z ((l.all_and_only z).0 d)),
              (λ d. elim (there x xs z d) [ inl e ↦ subst (λ v. Contains ys v) e c | inr k ↦ (l.all_and_only z).1 k ]),
            );
          },
        )
        | inr n ↦ (
          x ∷ ys,
          record {
            distinct = AllPairs-cons (λ u v. u ≢ v) x ys (All-weaker (Contains ys) (λ v. x ≢ v) (λ v d e. n (subst (λ u. Contains ys u) (sym e) d)) ys (All-contains_itself ys)) l.distinct;
            all_and_only = λ z. (
              (λ d. elim (there x ys z d) [ inl e ↦ subst (λ v. Contains (x ∷ xs) v) e (here x xs) | inr k ↦ later x xs z ((l.all_and_only z).0 k) ]),
              (λ d. elim (there x xs z d) [ inl e ↦ subst (λ v. Contains (x ∷ ys) v) e (here x ys) | inr k ↦ later x ys z ((l.all_and_only z).1 k) ]),
            );
          },
        )
      ]

  -- a set with a list has one without repeats
  listed_once : (A : X → Type 0) → IsListed A → (ys : List X) × IsListOf A ys
  listed_once A (xs, h) =
      let (ys, l) = one_each xs in
      (ys, record { distinct = l.distinct; all_and_only = λ x. ((λ c. (h x).1 ((l.all_and_only x).0 c)), (λ a. (l.all_and_only x).1 ((h x).0 a))) })

module _ (w : World) where
  pub counted : (A : Tuples) → IsListed A → (n : ℤ) × IsCount w A n
  counted A l = let (ts, is) = listed_once decided_list A l in (wrap w.bits (pos (length ts)), (ts, is, refl))

  pub numbered : (A : Tuples) → IsListed A → (n : ℤ) × IsNumber w A n
  numbered A l =
      let Members : ℕ → Type 0 = λ a. IsInteger w a × A (a ∷ []) in
      let (members, is) = listed_once decided_nat Members (listed_by (λ a. A (a ∷ []) × IsInteger w a) Members (λ a b. (b.1, b.0)) (λ a b. (b.1, b.0))
      (listed_that (λ a. A (a ∷ [])) (IsInteger w) (listed_atoms A l) (λ a b. decided_integer w a))) in
      (wrap w.bits (sum_of (map (integer_of w) members)), (members, is, refl))

  -- the atom of the one integer that is so
  pub listed_value : (Is : ℤ → Type 0) → ((n m : ℤ) → Is n → Is m → n ≡ m) → (n : ℤ) × Is n → IsListed (λ (t : List ℕ). (n : ℤ) × Is n × (t ≡ atom_of w n ∷ []))
  listed_value Is one (n, is) = listed_one (λ t. (m : ℤ) × Is m × (t ≡ atom_of w m ∷ [])) (atom_of w n ∷ []) (n, is, refl) (λ t (m, other, e). e ∙ ap (λ z. atom_of w z ∷ []) (one m n other is))

  -- Comparisons.

  apart : (m n : ℕ) → pos m ≡ negsuc n → ⊥
  apart m n e = cc

  decided_same : (x y : ℤ) → IsDecided (x ≡ y)
  decided_same (pos m) (pos n) = decided_by (λ e. ap pos e) (λ (e : pos m ≡ pos n). cc) (decided_nat m n)
  decided_same (pos m) (negsuc n) = inr (apart m n)
  decided_same (negsuc m) (pos n) = inr (λ e. apart n m (sym e))
  decided_same (negsuc m) (negsuc n) = decided_by (λ e. ap negsuc e) (λ (e : negsuc m ≡ negsuc n). cc) (decided_nat m n)

  decided_below : (x y : ℤ) → IsDecided (x <ℤ y)
  decided_below x y = by_lt_z x y inl (λ le. inr (λ lt. omega (arith, ints)))

  decided_less : (A B : Tuples) → IsListed A → IsListed B → IsDecided (IsLess w A B)
  decided_less A B l m =
      let (x, a) = numbered A l in
      let (y, b) = numbered B m in
      decided_by (λ lt. (x, y, a, b, lt))
      (λ (u, v, c, d, lt). subst (λ z. x <ℤ z) (number_once w B v y d b) (subst (λ z. z <ℤ v) (number_once w A u x c a) lt))
      (decided_below x y)

  pub decided_compares : (op : Comparison) (A B : Tuples) → IsListed A → IsListed B → IsDecided (Compares w op A B)
  decided_compares Equal A B l m =
      let (x, a) = numbered A l in
      let (y, b) = numbered B m in
      decided_by (λ e. (x, a, subst (λ z. IsNumber w B z) (sym e) b))
      (λ (u, c, d). number_once w A x u a c ∙ number_once w B u y d b)
      (decided_same x y)
  decided_compares Less A B l m = decided_less A B l m
  decided_compares AtMost A B l m = decided_not (decided_less B A m l)
  decided_compares Greater A B l m = decided_less B A m l
  decided_compares AtLeast A B l m = decided_not (decided_less A B l m)

-- Sums.

abbrev pub Row : Type 0
Row = List ℕ × ℤ

key_there : (rows : List Row) (r : Row) → Contains rows r → Contains (map (λ (r : Row). r.0) rows) r.0
key_there [] r c = absurd (none_there c)
key_there (q ∷ rows) r c = elim (there q rows r c) [
  | inl e ↦ subst (λ (v : Row). Contains (map (λ (r : Row). r.0) (q ∷ rows)) v.0) e (here q.0 (map (λ (r : Row). r.0) rows))
  | inr d ↦ later q.0 (map (λ (r : Row). r.0) rows) r.0 (key_there rows r d)
]

row_there : (rows : List Row) (t : List ℕ) → Contains (map (λ (r : Row). r.0) rows) t → (m : ℤ) × Contains rows (t, m)
row_there [] t c = absurd (none_there c)
row_there (q ∷ rows) t c = elim (there q.0 (map (λ (r : Row). r.0) rows) t c) [
  | inl e ↦ (q.1, subst (λ (v : List ℕ). Contains (q ∷ rows) (v, q.1)) e (here q rows))
  | inr d ↦ let (m, k) = row_there rows t d in (m, later q rows (t, m) k)
]

rows_once : (rows : List Row) → AreOnce (map (λ (r : Row). r.0) rows) → AreOnce rows
rows_once [] o = tt
rows_once (q ∷ rows) o = ((λ c. o.0 (key_there rows q c)), rows_once rows o.1)

module _ (w : World) (Choices : Tuples) (Body : List ℕ → ℤ → Type 0) where
  -- a row of one list stands in another that has its choice
  moved : ((t : List ℕ) (m n : ℤ) → Body t m → Body t n → m ≡ n) → (rows more : List Row) → All (λ (r : Row). Body r.0 r.1) rows → All (λ (r : Row). Body r.0 r.1) more →
      ((t : List ℕ) → Contains (map (λ (r : Row). r.0) rows) t → Contains (map (λ (r : Row). r.0) more) t) → (r : Row) → Contains rows r → Contains more r
  moved one rows more a b f r c =
      let (m, d) = row_there more r.0 (f r.0 (key_there rows r c)) in
      subst (λ (z : ℤ). Contains more (r.0, z)) (one r.0 m r.1 (All-contains (λ (q : Row). Body q.0 q.1) more (r.0, m) b d) (All-contains (λ (q : Row). Body q.0 q.1) rows r a c)) d

  -- a sum has at most one value
  pub sum_once : ((t : List ℕ) (m n : ℤ) → Body t m → Body t n → m ≡ n) → (n m : ℤ) → IsSumOver w Choices Body n → IsSumOver w Choices Body m → n ≡ m
  sum_once one n m (rows, l, a, e) (more, k, b, f) =
      e ∙ ap (λ z. wrap w.bits z) (same_sum (λ (r : Row). r.1) rows more (rows_once rows (once (map (λ (r : Row). r.0) rows) l.distinct)) (rows_once more (once (map (λ (r : Row). r.0) more) k.distinct))
      (λ r. (moved one rows more a b (λ t c. (k.all_and_only t).1 ((l.all_and_only t).0 c)) r, moved one more rows b a (λ t c. (l.all_and_only t).1 ((k.all_and_only t).0 c)) r))) ∙ sym f

  -- rows of some choices
  valued : (ts : List (List ℕ)) → ((t : List ℕ) → Contains ts t → (m : ℤ) × Body t m) → (rows : List Row) × (map (λ (r : Row). r.0) rows ≡ ts) × All (λ (r : Row). Body r.0 r.1) rows
  valued [] f = ([], refl, λ k a lt. absurd (omega arith))
  valued (t ∷ ts) f =
      let (m, b) = f t (here t ts) in
      let (rows, e, a) = valued ts (λ u c. f u (later t ts u c)) in
      ((t, m) ∷ rows, ap (λ l. t ∷ l) e, All-cons (λ (r : Row). Body r.0 r.1) (t, m) rows b a)

  -- a sum over a listed set has a value
  pub summed : IsListed Choices → ((t : List ℕ) → Choices t → (m : ℤ) × Body t m) → (n : ℤ) × IsSumOver w Choices Body n
  summed l f =
      let (ts, is) = listed_once decided_list Choices l in
      let (rows, e, a) = valued ts (λ t c. f t ((is.all_and_only t).0 c)) in
      (wrap w.bits (sum_of (map (λ (r : Row). r.1) rows)), (rows, subst (λ (v : List (List ℕ)). IsListOf Choices v) (sym e) is, a, refl))
