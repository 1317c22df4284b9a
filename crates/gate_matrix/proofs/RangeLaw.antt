-- The entries that begin with a number stand next to each other.
use Rattle.std.proofs.Common.{◌≡◌, ℕ, zero, suc, ◌+◌, ◌-◌, ◌<◌, ◌≤◌, Bool, true, false, ◌&&◌, ◌||◌, eqb, List, [], ◌∷◌, length, take, drop, get_or, refl, sym, ◌∙◌, ap, subst, inl, inr, arith, All, length-take, length-drop, get_or-take, get_or-drop}
use Rattle.std.specs.declared.cmp.Ordering.{Ordering}
use Rattle.std.specs.declared.cmp.Ordering.TheVariants.{Less, Greater}
use Rattle.std.specs.Ordering.{ordering_then, nat_cmp}
use Rattle.std.specs.Cmp.{nat_cmp_is}
use Rattle.std.specs.List.{AllWithin, list_any}
use Rattle.std.specs.List.Sorted.{IsStrictlySortedBy}
use Rattle.std.proofs.lemmas.Map.Keys.{Less-from_sorted}
use Rattle.std.proofs.lemmas.Bool.{cases_lt}
use Rattle.std.proofs.lemmas.Bool.Decides.{nat_tests}
use Rattle.std.proofs.lemmas.List.{take-append-drop}
use Rattle.std.proofs.lemmas.List.Folds.{list_any-append, list_any_none}
use Rattle.core_tuples.specs.Sets.{tuple_cmp}
use Rattle.gate_matrix.specs.declared.entry.Entry.{Entry}
use Rattle.gate_matrix.specs.Matrices.{tuples_of}
use Rattle.gate_matrix.specs.Joined.{first_of}
use Rattle.gate_matrix.proofs.PlaceLaw.{tuple_at}
use Rattle.gate_matrix.proofs.BasicLemmas.{length_tuples, head_all, tail_all}

less_first : (s t : List ℕ) → 1 ≤ length s → tuple_cmp s t ≡ Less → get_or s 0 0 ≤ get_or t 0 0
less_first [] t long h = absurd (omega arith)
less_first (x ∷ s) [] long h = absurd (cc)
less_first (x ∷ s) (y ∷ t) long h = elim (cases_lt y x) [
  | inl greater ↦ (let e : Greater ≡ nat_cmp x y = nat_cmp_is x y Greater greater in
      let f : ordering_then (nat_cmp x y) (tuple_cmp s t) ≡ Greater = ap (λ (o : Ordering). ordering_then o (tuple_cmp s t)) (sym e) in
      absurd (cc))
  | inr most ↦ most
]

first_mono : (es : List Entry) (i j : ℕ) (d : Entry) → IsStrictlySortedBy tuple_cmp (tuples_of es) → All (λ e. 1 ≤ length e.tuple) es → i < j → j < length es → first_of (get_or es i d) ≤ first_of (get_or es j d)
first_mono es i j d s long lt within =
    let a = get_or es i d in
    let b = get_or es j d in
    let at_i : get_or (tuples_of es) i [] ≡ a.tuple = tuple_at es i [] a (omega arith) (sym (get_same es i d a (omega arith))) in
    let at_j : get_or (tuples_of es) j [] ≡ b.tuple = tuple_at es j [] b within (sym (get_same es j d b within)) in
    let h = Less-from_sorted tuple_cmp (tuples_of es) i j [] s lt (omega (arith, length_tuples es)) in
    less_first a.tuple b.tuple (long i d (omega arith)) (sym (ap (λ (t : List ℕ). tuple_cmp t (get_or (tuples_of es) j [])) at_i ∙ ap (λ (t : List ℕ). tuple_cmp a.tuple t) at_j) ∙ h)
  where
    get_same : (es : List Entry) (i : ℕ) (d f : Entry) → i < length es → get_or es i f ≡ get_or es i d
    get_same [] i d f lt = absurd (omega arith)
    get_same (e ∷ es) zero d f lt = refl
    get_same (e ∷ es) (suc i) d f lt = get_same es i d f (omega arith)

-- where the middle entry begins below the limit, all before it do
pub below_here : (es : List Entry) (m limit : ℕ) (e : Entry) → IsStrictlySortedBy tuple_cmp (tuples_of es) → All (λ e. 1 ≤ length e.tuple) es → m < length es → e ≡ get_or es m e → first_of e < limit → AllWithin (λ e. first_of e < limit) es 0 (m + 1)
below_here es m limit e s long lt is here k d low high = elim (cases_lt k m) [
  | inl before ↦ (let a = first_mono es k m d s long before lt in
      let b : first_of (get_or es m d) ≡ first_of e = ap (λ (x : Entry). first_of x) (read es m d e lt is) in omega arith)
  | inr at ↦ (let same : m ≡ k = omega arith in subst (λ (n : ℕ). first_of (get_or es n d) < limit) same
      (let b : first_of (get_or es m d) ≡ first_of e = ap (λ (x : Entry). first_of x) (read es m d e lt is) in omega arith))
]
  where
    read : (es : List Entry) (m : ℕ) (d e : Entry) → m < length es → e ≡ get_or es m e → get_or es m d ≡ e
    read [] m d e lt is = absurd (omega arith)
    read (f ∷ es) zero d e lt is = sym is
    read (f ∷ es) (suc m) d e lt is = read es m d e (omega arith) is

-- where it does not, none after it does
pub above_here : (es : List Entry) (m limit : ℕ) (e : Entry) → IsStrictlySortedBy tuple_cmp (tuples_of es) → All (λ e. 1 ≤ length e.tuple) es → m < length es → e ≡ get_or es m e → limit ≤ first_of e → AllWithin (λ e. limit ≤ first_of e) es m (length es)
above_here es m limit e s long lt is here k d low high = elim (cases_lt m k) [
  | inl after ↦ (let a = first_mono es m k d s long after high in
      let b : first_of (get_or es m d) ≡ first_of e = ap (λ (x : Entry). first_of x) (read es m d e lt is) in omega arith)
  | inr at ↦ (let same : m ≡ k = omega arith in subst (λ (n : ℕ). limit ≤ first_of (get_or es n d)) same
      (let b : first_of (get_or es m d) ≡ first_of e = ap (λ (x : Entry). first_of x) (read es m d e lt is) in omega arith))
]
  where
    read : (es : List Entry) (m : ℕ) (d e : Entry) → m < length es → e ≡ get_or es m e → get_or es m d ≡ e
    read [] m d e lt is = absurd (omega arith)
    read (f ∷ es) zero d e lt is = sym is
    read (f ∷ es) (suc m) d e lt is = read es m d e (omega arith) is

blank : Entry
blank = record { tuple = []; node = record { code = 0 } }

any_same : (p q : Entry → Bool) (xs : List Entry) → All (λ x. q x ≡ p x) xs → list_any p xs ≡ list_any q xs
any_same p q [] h = refl
any_same p q (x ∷ xs) h =
    let P : Entry → Type 0 = λ (y : Entry). q y ≡ p y in
    ap (λ (b : Bool). b || list_any p xs) (sym (head_all P x xs h)) ∙ ap (λ (b : Bool). q x || b) (any_same p q xs (tail_all P x xs h))

or_false : (b : Bool) → b || false ≡ b
or_false true = refl
or_false false = refl

module _ (es : List Entry) (number from to : ℕ) (below : AllWithin (λ e. first_of e < number) es 0 from) (above : AllWithin (λ e. number ≤ first_of e) es from (length es)) (below_next : AllWithin (λ e. first_of e < number + 1) es 0 to) (above_next : AllWithin (λ e. number + 1 ≤ first_of e) es to (length es)) (from_within : from ≤ length es) (to_within : to ≤ length es) where
  pub row_order : from ≤ to
  row_order = elim (cases_lt to from) [
    | inl less ↦ (let a = below to blank (omega arith) less in
        let b = above_next to blank (omega arith) (omega arith) in absurd (omega (arith, a, b)))
    | inr most ↦ most
  ]

  asked : (Entry → Bool) → Entry → Bool
  asked p f = eqb (first_of f) number && p f

  before_none : (p : Entry → Bool) → list_any (asked p) (take from es) ≡ false
  unfolding asked
  before_none p = list_any_none (asked p) (take from es) (λ k d lt.
      let h : k < from = omega (arith, length-take from es, lt) in
      let a : first_of (get_or (take from es) k d) < number = rw get_or-take (below k d (omega arith) h) in
      let e : eqb (first_of (get_or (take from es) k d)) number ≡ false = grind (arith, nat_tests) in
      ap (λ (b : Bool). b && p (get_or (take from es) k d)) e)

  after_none : (p : Entry → Bool) → list_any (asked p) (drop (to - from) (drop from es)) ≡ false
  unfolding asked
  after_none p = list_any_none (asked p) (drop (to - from) (drop from es)) (λ k d lt.
      let order = row_order in
      let n = to - from in
      let place : from + (n + k) < length es = omega (arith, length-drop n (drop from es), length-drop from es, lt) in
      let a : number + 1 ≤ first_of (get_or (drop n (drop from es)) k d) = rw (get_or-drop, get_or-drop) (above_next (from + (n + k)) d (omega arith) place) in
      let e : eqb (first_of (get_or (drop n (drop from es)) k d)) number ≡ false = grind (arith, nat_tests) in
      ap (λ (b : Bool). b && p (get_or (drop n (drop from es)) k d)) e)

  row_asked : (p : Entry → Bool) → All (λ f. asked p f ≡ p f) (take (to - from) (drop from es))
  unfolding asked
  row_asked p k d lt =
      let order = row_order in
      let n = to - from in
      let h : k < n = omega (arith, length-take n (drop from es), lt) in
      let row = get_or (take n (drop from es)) k d in
      let a : number ≤ first_of row = rw (get_or-take, get_or-drop) (above (from + k) d (omega arith) (omega arith)) in
      let b : first_of row < number + 1 = rw (get_or-take, get_or-drop) (below_next (from + k) d (omega arith) (omega arith)) in
      let e : eqb (first_of row) number ≡ true = grind (arith, nat_tests) in
      ap (λ (c : Bool). c && p row) e

  split_any : (q : Entry → Bool) (n : ℕ) (xs : List Entry) → list_any q xs ≡ list_any q (take n xs) || list_any q (drop n xs)
  split_any q n xs = ap (λ (ys : List Entry). list_any q ys) (sym (take-append-drop n xs)) ∙ list_any-append q (take n xs) (drop n xs)

  pub row_tests : (p : Entry → Bool) → list_any p (take (to - from) (drop from es)) ≡ list_any (λ f. eqb (first_of f) number && p f) es
  unfolding asked
  row_tests p =
      let q = asked p in
      let n = to - from in
      let row = take n (drop from es) in
      sym (split_any q from es
      ∙ ap (λ (b : Bool). b || list_any q (drop from es)) (before_none p)
      ∙ split_any q n (drop from es)
      ∙ ap (λ (b : Bool). list_any q row || b) (after_none p)
      ∙ or_false (list_any q row)
      ∙ sym (any_same p q row (row_asked p)))
