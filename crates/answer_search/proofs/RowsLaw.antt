-- Each variable of a table that says no loop is that of a row.
use Rattle.std.proofs.Common.{◌≡◌, ◌⊎◌, inl, inr, ℕ, zero, suc, ◌+◌, ◌-◌, ◌<◌, ◌≤◌, Bool, true, false, if◌then◌else◌, nat_lt, eqb, List, [], ◌∷◌, length, map, Some, slice_get, refl, sym, ap, ◌∙◌, subst, arith}
use Rattle.std.proofs.lemmas.Bool.{cases_lt, cases_order, lt-ltb, eq-eqb}
use Rattle.std.proofs.lemmas.Bool.Decides.{nat_tests}
use Rattle.std.proofs.lemmas.List.Sums.{sum_by-cons}
use Rattle.bound_uppers.specs.declared.sums.Weight.{Weight}
use Rattle.bound_uppers.specs.declared.table.Bound.{Bound}
use Rattle.bound_uppers.specs.declared.table.Bounds.{Bounds}
use Rattle.bound_uppers.specs.Numbers.{weight_of}
use Rattle.bound_uppers.specs.Sums.{at_place}
use Rattle.bound_uppers.specs.Table.{size_at, together, before, is_later, earlier, first_at, variable_of, IsTable, IsRow}
use Rattle.bound_uppers.proofs.Sizes.{before_cons, before_weights, together_cons}
use Rattle.bound_uppers.proofs.Weighing.{before_more, before_none}

-- ---- the state

state_found : (bs : List Bound) (n m : ℕ) → m < earlier bs n → (s : ℕ) × (s < n) × (earlier bs s ≤ m) × (m < earlier bs s + together (is_later s) bs)
state_found bs zero m lt = absurd (omega (arith, lt))
state_found bs (suc n) m lt =
    elim (cases_lt m (earlier bs n)) [
      | inl less ↦ let (s, low, from, to) = state_found bs n m less in (s, omega (arith, low), from, to)
      | inr more ↦ (n, omega arith, more, lt)
    ]

-- ---- the relation

all_before : (later : Bool) (n : ℕ) (bs : List Bound) → ((r : ℕ) (b : Bound) → slice_get bs r ≡ Some b → b.order < n) → together later bs ≡ before later n bs
all_before later n [] low = refl
all_before later n (b ∷ bs) low =
    let size : (if nat_lt b.order n then size_at later b else 0) ≡ size_at later b = ap (λ (q : Bool). if q then size_at later b else 0) (lt-ltb b.order n (low 0 b refl)) in
    let rest = all_before later n bs (λ r c e. low (suc r) c e) in
    omega (arith, size, rest, together_cons later b bs, before_cons later n b bs)

order_found : (later : Bool) (bs : List Bound) (n o : ℕ) → o < before later n bs → (k : ℕ) × (before later k bs ≤ o) × (o < before later (k + 1) bs)
order_found later bs zero o lt = absurd (omega (arith, lt, before_none (map (weight_of later) bs), before_weights later 0 bs))
order_found later bs (suc n) o lt =
    elim (cases_lt o (before later n bs)) [
      | inl less ↦ order_found later bs n o less
      | inr more ↦ let step : suc n ≡ n + 1 = omega arith in (n, more, subst (λ (m : ℕ). o < before later m bs) step lt)
    ]

next_before : (later : Bool) (k : ℕ) (bs : List Bound) → before later (k + 1) bs ≡ before later k bs + at_place k (map (weight_of later) bs)
next_before later k bs =
    let ws = map (weight_of later) bs in
    omega (arith, before_more k ws, before_weights later k bs, before_weights later (k + 1) bs)

-- relations of which no two have one place
abbrev AreApart : List Bound → Type 0
AreApart bs = (r q : ℕ) (b c : Bound) → slice_get bs r ≡ Some b → slice_get bs q ≡ Some c → b.order ≡ c.order → r ≡ q

own_size : (o k s : ℕ) → o ≡ k → (if eqb o k then s else 0) ≡ s
own_size o k s is = ap (λ (q : Bool). if q then s else 0) (eq-eqb o k is)

other_size : (o k s : ℕ) → (o < k) ⊎ (k < o) → (if eqb o k then s else 0) ≡ 0
other_size o k s (inl lt) = grind (arith, nat_tests)
other_size o k s (inr gt) = grind (arith, nat_tests)

at_cons : (later : Bool) (k : ℕ) (b : Bound) (bs : List Bound) → at_place k (map (weight_of later) (b ∷ bs)) ≡ (if eqb b.order k then size_at later b else 0) + at_place k (map (weight_of later) bs)
at_cons later k b bs = sum_by-cons (λ (w : Weight). if eqb w.place k then w.size else 0) (weight_of later b) (map (weight_of later) bs)

none_at : (later : Bool) (k : ℕ) (bs : List Bound) → ((q : ℕ) (c : Bound) → slice_get bs q ≡ Some c → (c.order < k) ⊎ (k < c.order)) → at_place k (map (weight_of later) bs) ≡ 0
none_at later k [] other = refl
none_at later k (c ∷ bs) other =
    let size = other_size c.order k (size_at later c) (other 0 c refl) in
    let rest = none_at later k bs (λ q d e. other (suc q) d e) in
    omega (arith, size, rest, at_cons later k c bs)

-- the others have another place than the first
rest_other : (k : ℕ) (b : Bound) (bs : List Bound) → AreApart (b ∷ bs) → b.order ≡ k → (q : ℕ) (c : Bound) → slice_get bs q ≡ Some c → (c.order < k) ⊎ (k < c.order)
rest_other k b bs apart is q c e =
    elim (cases_order c.order k) [ inl same ↦ let level : 0 ≡ suc q = apart 0 (suc q) b c refl e (is ∙ sym same) in absurd (omega (arith, level)) | inr other ↦ other ]

at_found : (later : Bool) (k o : ℕ) (bs : List Bound) → AreApart bs → o < at_place k (map (weight_of later) bs) → (r : ℕ) × (b : Bound) × (slice_get bs r ≡ Some b) × (b.order ≡ k) × (o < size_at later b)
at_found later k o [] apart lt = let none : at_place k [] ≡ 0 = refl in absurd (omega (arith, lt, none))
at_found later k o (b ∷ bs) apart lt =
    elim (cases_order b.order k) [
      | inl is ↦
          let size = own_size b.order k (size_at later b) is in
          let none = none_at later k bs (rest_other k b bs apart is) in
          (zero, b, refl, is, omega (arith, lt, size, none, at_cons later k b bs))
      | inr other ↦
          let size = other_size b.order k (size_at later b) other in
          let rest : AreApart bs = λ r q c d e f same. let up : suc r ≡ suc q = apart (suc r) (suc q) c d e f same in omega (arith, up) in
          let (r, c, at, order, low) = at_found later k o bs rest (omega (arith, lt, size, at_cons later k b bs)) in
          (suc r, c, at, order, low)
    ]

-- ---- the place

in_later : (s place : ℕ) (b : Bound) (fixed : Bool) → b.fixed ≡ fixed → place < (if b.fixed then 0 else length b.upper.tuples) → (place < length b.upper.tuples) × (b.fixed ≡ true → suc s ≡ 0)
in_later s place b true e lt =
    let none : (if b.fixed then 0 else length b.upper.tuples) ≡ 0 = ap (λ (q : Bool). if q then 0 else length b.upper.tuples) e in
    absurd (omega (arith, lt, none))
in_later s place b false e lt =
    let size : (if b.fixed then 0 else length b.upper.tuples) ≡ length b.upper.tuples = ap (λ (q : Bool). if q then 0 else length b.upper.tuples) e in
    (omega (arith, lt, size), λ f. absurd cc)

in_row : (s place : ℕ) (b : Bound) → place < size_at (is_later s) b → (place < length b.upper.tuples) × (b.fixed ≡ true → s ≡ 0)
in_row zero place b lt = (lt, λ e. refl)
in_row (suc s) place b lt = in_later s place b b.fixed refl lt

own_state : (s : ℕ) (b : Bound) (fixed : Bool) → b.fixed ≡ fixed → (b.fixed ≡ true → s ≡ 0) → (if b.fixed then 0 else s) ≡ s
own_state s b true e own = ap (λ (q : Bool). if q then 0 else s) e ∙ sym (own e)
own_state s b false e own = ap (λ (q : Bool). if q then 0 else s) e

own_number : (bs : List Bound) (b : Bound) (s place : ℕ) → (b.fixed ≡ true → s ≡ 0) → variable_of bs b s place ≡ first_at bs b s + place
own_number bs b s place own = ap (λ (z : ℕ). first_at bs b z + place) (own_state s b b.fixed refl own)

same_start : (later : Bool) (bs : List Bound) (n k : ℕ) → n ≡ k → before later n bs ≡ before later k bs
same_start later bs n k e = ap (λ (o : ℕ). before later o bs) e

number_is : (m rows before_it start v : ℕ) → 0 < m → rows ≤ m - 1 → before_it ≤ m - 1 - rows → start ≡ before_it → v ≡ 1 + rows + start + (m - 1 - rows - before_it) → m ≡ v
number_is m rows before_it start v some from after same is = omega (arith, some, from, after, same, is)

below_one : (m n : ℕ) → 0 < m → m ≤ n → m - 1 < n
below_one m n some le = omega (arith, some, le)

left_less : (m rows all : ℕ) → rows ≤ m → m < rows + all → m - rows < all
left_less m rows all from to = omega (arith, from, to)

-- a variable that says no loop is that of a row
pub row_found : (bounds : Bounds) → IsTable bounds → (m : ℕ) → 0 < m → m ≤ earlier bounds.relations bounds.states → (s : ℕ) × (r : ℕ) × (place : ℕ) × (b : Bound) × IsRow bounds s r place b × (m ≡ variable_of bounds.relations b s place)
row_found bounds is m some low =
    let bs = bounds.relations in
    let (s, lt, from, to) = state_found bs bounds.states (m - 1) (below_one m (earlier bs bounds.states) some low) in
    let later = is_later s in
    let rest = left_less (m - 1) (earlier bs s) (together later bs) from to in
    let (k, after, until) = order_found later bs (length bs) (m - 1 - earlier bs s) (subst (λ (n : ℕ). m - 1 - earlier bs s < n) (all_before later (length bs) bs is.placed) rest) in
    let place = m - 1 - earlier bs s - before later k bs in
    let small = left_less (m - 1 - earlier bs s) (before later k bs) (at_place k (map (weight_of later) bs)) after (subst (λ (n : ℕ). m - 1 - earlier bs s < n) (next_before later k bs) until) in
    let (r, b, at, order, size) = at_found later k place bs is.apart small in
    let (place_in, own) = in_row s place b size in
    let start = same_start later bs b.order k order in
    let number = own_number bs b s place own in
    (s, r, place, b, record { relation = at; state = lt; place_in = place_in; own = own }, number_is m (earlier bs s) (before later k bs) (before later b.order bs) (variable_of bs b s place) some from after start number)
