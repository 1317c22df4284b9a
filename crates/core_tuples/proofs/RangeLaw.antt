-- The tuples that begin with a number stand next to each other.
use Rattle.std.proofs.Common.{◌≡◌, ℕ, zero, suc, ◌+◌, ◌-◌, ◌<◌, ◌≤◌, Bool, true, false, ◌&&◌, ◌||◌, eqb, List, [], ◌∷◌, length, take, drop, get_or, refl, sym, ◌∙◌, ap, subst, inl, inr, arith, All, length-take, length-drop, get_or-take, get_or-drop}
use Rattle.std.specs.declared.cmp.Ordering.{Ordering}
use Rattle.std.specs.declared.cmp.Ordering.TheVariants.{Less, Greater}
use Rattle.std.specs.Ordering.{ordering_then, nat_cmp}
use Rattle.std.specs.Cmp.{nat_cmp_is}
use Rattle.std.specs.List.{AllWithin, list_any}
use Rattle.std.specs.List.Sorted.{IsStrictlySortedBy}
use Rattle.std.proofs.lemmas.Map.Keys.{Less-from_sorted}
use Rattle.std.proofs.lemmas.Bool.{cases_lt}
use Rattle.std.proofs.lemmas.Bool.Decides.{nat_tests}
use Rattle.std.proofs.lemmas.List.{take-append-drop}
use Rattle.std.proofs.lemmas.List.Folds.{list_any-append, list_any_none}
use Rattle.core_tuples.specs.Sets.{tuple_cmp}
use Rattle.std.proofs.lemmas.List.Elements.{All-head, All-tail}

abbrev first_of : List ℕ → ℕ
first_of t = get_or t 0 0

less_first : (s t : List ℕ) → 1 ≤ length s → tuple_cmp s t ≡ Less → get_or s 0 0 ≤ get_or t 0 0
less_first [] t long h = absurd (omega arith)
less_first (x ∷ s) [] long h = absurd (cc)
less_first (x ∷ s) (y ∷ t) long h = elim (cases_lt y x) [
  | inl greater ↦ (let e : Greater ≡ nat_cmp x y = nat_cmp_is x y Greater greater in
      let f : ordering_then (nat_cmp x y) (tuple_cmp s t) ≡ Greater = ap (λ (o : Ordering). ordering_then o (tuple_cmp s t)) (sym e) in
      absurd (cc))
  | inr most ↦ most
]

first_mono : (ts : List (List ℕ)) (i j : ℕ) (d : List ℕ) → IsStrictlySortedBy tuple_cmp ts → All (λ e. 1 ≤ length e) ts → i < j → j < length ts → first_of (get_or ts i d) ≤ first_of (get_or ts j d)
first_mono ts i j d s long lt within =
    less_first (get_or ts i d) (get_or ts j d) (long i d (omega arith)) (Less-from_sorted tuple_cmp ts i j d s lt within)

-- where the middle tuple begins below the limit, all before it do
pub below_here : (ts : List (List ℕ)) (m limit : ℕ) (e : List ℕ) → IsStrictlySortedBy tuple_cmp ts → All (λ e. 1 ≤ length e) ts → m < length ts → e ≡ get_or ts m e → first_of e < limit → AllWithin (λ e. first_of e < limit) ts 0 (m + 1)
below_here ts m limit e s long lt is here k d low high = elim (cases_lt k m) [
  | inl before ↦ (let a = first_mono ts k m d s long before lt in
      let b : first_of (get_or ts m d) ≡ first_of e = ap (λ (x : List ℕ). first_of x) (read ts m d e lt is) in omega arith)
  | inr at ↦ (let same : m ≡ k = omega arith in subst (λ (n : ℕ). first_of (get_or ts n d) < limit) same
      (let b : first_of (get_or ts m d) ≡ first_of e = ap (λ (x : List ℕ). first_of x) (read ts m d e lt is) in omega arith))
]
  where
    read : (ts : List (List ℕ)) (m : ℕ) (d e : List ℕ) → m < length ts → e ≡ get_or ts m e → get_or ts m d ≡ e
    read [] m d e lt is = absurd (omega arith)
    read (f ∷ ts) zero d e lt is = sym is
    read (f ∷ ts) (suc m) d e lt is = read ts m d e (omega arith) is

-- where it does not, none after it does
pub above_here : (ts : List (List ℕ)) (m limit : ℕ) (e : List ℕ) → IsStrictlySortedBy tuple_cmp ts → All (λ e. 1 ≤ length e) ts → m < length ts → e ≡ get_or ts m e → limit ≤ first_of e → AllWithin (λ e. limit ≤ first_of e) ts m (length ts)
above_here ts m limit e s long lt is here k d low high = elim (cases_lt m k) [
  | inl after ↦ (let a = first_mono ts m k d s long after high in
      let b : first_of (get_or ts m d) ≡ first_of e = ap (λ (x : List ℕ). first_of x) (read ts m d e lt is) in omega arith)
  | inr at ↦ (let same : m ≡ k = omega arith in subst (λ (n : ℕ). limit ≤ first_of (get_or ts n d)) same
      (let b : first_of (get_or ts m d) ≡ first_of e = ap (λ (x : List ℕ). first_of x) (read ts m d e lt is) in omega arith))
]
  where
    read : (ts : List (List ℕ)) (m : ℕ) (d e : List ℕ) → m < length ts → e ≡ get_or ts m e → get_or ts m d ≡ e
    read [] m d e lt is = absurd (omega arith)
    read (f ∷ ts) zero d e lt is = sym is
    read (f ∷ ts) (suc m) d e lt is = read ts m d e (omega arith) is

any_same : (p q : List ℕ → Bool) (xs : List (List ℕ)) → All (λ x. q x ≡ p x) xs → list_any p xs ≡ list_any q xs
any_same p q [] h = refl
any_same p q (x ∷ xs) h =
    let P : List ℕ → Type 0 = λ (y : List ℕ). q y ≡ p y in
    ap (λ (b : Bool). b || list_any p xs) (sym (All-head P x xs h)) ∙ ap (λ (b : Bool). q x || b) (any_same p q xs (All-tail P x xs h))

or_false : (b : Bool) → b || false ≡ b
or_false true = refl
or_false false = refl

module _ (ts : List (List ℕ)) (number from to : ℕ) (below : AllWithin (λ e. first_of e < number) ts 0 from) (above : AllWithin (λ e. number ≤ first_of e) ts from (length ts)) (below_next : AllWithin (λ e. first_of e < number + 1) ts 0 to) (above_next : AllWithin (λ e. number + 1 ≤ first_of e) ts to (length ts)) (from_within : from ≤ length ts) (to_within : to ≤ length ts) where
  pub row_order : from ≤ to
  row_order = elim (cases_lt to from) [
    | inl less ↦ (let a = below to [] (omega arith) less in
        let b = above_next to [] (omega arith) (omega arith) in absurd (omega (arith, a, b)))
    | inr most ↦ most
  ]

  asked : (List ℕ → Bool) → List ℕ → Bool
  asked p f = eqb (first_of f) number && p f

  before_none : (p : List ℕ → Bool) → list_any (asked p) (take from ts) ≡ false
  unfolding asked
  before_none p = list_any_none (asked p) (take from ts) (λ k d lt.
      let h : k < from = omega (arith, length-take from ts, lt) in
      let a : first_of (get_or (take from ts) k d) < number = rw get_or-take (below k d (omega arith) h) in
      let e : eqb (first_of (get_or (take from ts) k d)) number ≡ false = grind (arith, nat_tests) in
      ap (λ (b : Bool). b && p (get_or (take from ts) k d)) e)

  after_none : (p : List ℕ → Bool) → list_any (asked p) (drop (to - from) (drop from ts)) ≡ false
  unfolding asked
  after_none p = list_any_none (asked p) (drop (to - from) (drop from ts)) (λ k d lt.
      let order = row_order in
      let n = to - from in
      let place : from + (n + k) < length ts = omega (arith, length-drop n (drop from ts), length-drop from ts, lt) in
      let a : number + 1 ≤ first_of (get_or (drop n (drop from ts)) k d) = rw (get_or-drop, get_or-drop) (above_next (from + (n + k)) d (omega arith) place) in
      let e : eqb (first_of (get_or (drop n (drop from ts)) k d)) number ≡ false = grind (arith, nat_tests) in
      ap (λ (b : Bool). b && p (get_or (drop n (drop from ts)) k d)) e)

  row_asked : (p : List ℕ → Bool) → All (λ f. asked p f ≡ p f) (take (to - from) (drop from ts))
  unfolding asked
  row_asked p k d lt =
      let order = row_order in
      let n = to - from in
      let h : k < n = omega (arith, length-take n (drop from ts), lt) in
      let row = get_or (take n (drop from ts)) k d in
      let a : number ≤ first_of row = rw (get_or-take, get_or-drop) (above (from + k) d (omega arith) (omega arith)) in
      let b : first_of row < number + 1 = rw (get_or-take, get_or-drop) (below_next (from + k) d (omega arith) (omega arith)) in
      let e : eqb (first_of row) number ≡ true = grind (arith, nat_tests) in
      ap (λ (c : Bool). c && p row) e

  split_any : (q : List ℕ → Bool) (n : ℕ) (xs : List (List ℕ)) → list_any q xs ≡ list_any q (take n xs) || list_any q (drop n xs)
  split_any q n xs = ap (λ (ys : List (List ℕ)). list_any q ys) (sym (take-append-drop n xs)) ∙ list_any-append q (take n xs) (drop n xs)

  pub row_tests : (p : List ℕ → Bool) → list_any p (take (to - from) (drop from ts)) ≡ list_any (λ f. eqb (first_of f) number && p f) ts
  unfolding asked
  row_tests p =
      let q = asked p in
      let n = to - from in
      let row = take n (drop from ts) in
      sym (split_any q from ts
      ∙ ap (λ (b : Bool). b || list_any q (drop from ts)) (before_none p)
      ∙ split_any q n (drop from ts)
      ∙ ap (λ (b : Bool). list_any q row || b) (after_none p)
      ∙ or_false (list_any q row)
      ∙ sym (any_same p q row (row_asked p)))
