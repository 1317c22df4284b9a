-- Sums of sizes that stand at places.
use Rattle.std.proofs.Common.{◌≡◌, ◌≢◌, ◌⊎◌, inl, inr, ℕ, ◌+◌, ◌<◌, ◌≤◌, Bool, true, false, if◌then◌else◌, List, [], ◌∷◌, ◌++◌, length, take, slice_index, refl, ap, sym, ◌∙◌, arith, get_or, set, nat_lt, eqb}
use Rattle.std.specs.Prelude.{sum_by}
use Rattle.std.proofs.lemmas.Bool.{cases_lt}
use Rattle.std.proofs.lemmas.Bool.Decides.{nat_tests}
use Rattle.std.proofs.lemmas.List.{take_more, get_or-set_same, get_or-set_other}
use Rattle.std.proofs.lemmas.List.Sums.{sum_by-cons, sum_by_push}
use Rattle.bound_uppers.specs.declared.sums.Weight.{Weight}
use Rattle.bound_uppers.specs.Sums.{at_place, before_place}

sum_end : {X : Type 0} (f : X → ℕ) (xs : List X) (y : X) → sum_by f (xs ++ y ∷ []) ≡ sum_by f xs + f y
sum_end f xs y = sum_by_push f xs y

pub sum_more : {X : Type 0} (f : X → ℕ) (xs : List X) (k : ℕ) (x : X) → k < length xs → x ≡ get_or xs k x → sum_by f (take (k + 1) xs) ≡ sum_by f (take k xs) + f x
sum_more f xs k x lt is = ap (sum_by f) (take_more xs k x lt) ∙ (sum_end f (take k xs) (get_or xs k x) ∙ ap (λ y. sum_by f (take k xs) + f y) (sym is))

-- a number of a list, raised
same_or_not : (p o : ℕ) → (p < o) ⊎ (o ≤ p) → (o < p) ⊎ (p ≤ o) → (o ≡ p) ⊎ (o ≢ p)
same_or_not p o (inl lt) rest = inr (λ e. omega arith)
same_or_not p o (inr le) (inl lt) = inr (λ e. omega arith)
same_or_not p o (inr le) (inr ge) = inl (omega arith)

set_at_place : (xs : List ℕ) (p o v s : ℕ) → p < length xs → v ≡ slice_index xs p + s → (o ≡ p) ⊎ (o ≢ p) → slice_index (set xs p v) o ≡ slice_index xs o + (if eqb p o then s else 0)
set_at_place xs p o v s lt e (inl is) =
    let yes : eqb p o ≡ true = grind (arith, nat_tests) in
    let here : slice_index (set xs p v) p ≡ v = get_or-set_same xs p v 0 lt in
    let there : slice_index (set xs p v) o ≡ v = ap (slice_index (set xs p v)) is ∙ here in
    let old : slice_index xs p ≡ slice_index xs o = ap (slice_index xs) (sym is) in
    let size : (if eqb p o then s else 0) ≡ s = ap (λ (b : Bool). if b then s else 0) yes in
    omega (arith, there, e, old, size)
set_at_place xs p o v s lt e (inr differ) =
    let not : eqb p o ≡ false = grind (arith, nat_tests) in
    let there : slice_index (set xs p v) o ≡ slice_index xs o = get_or-set_other xs p o v 0 differ in
    let size : (if eqb p o then s else 0) ≡ 0 = ap (λ (b : Bool). if b then s else 0) not in
    omega (arith, there, size)

pub set_sum : (xs : List ℕ) (p o v s : ℕ) → p < length xs → v ≡ slice_index xs p + s → slice_index (set xs p v) o ≡ slice_index xs o + (if eqb p o then s else 0)
set_sum xs p o v s lt e = set_at_place xs p o v s lt e (same_or_not p o (cases_lt p o) (cases_lt o p))

-- no number is raised where there is no such place
pub no_place : (p o s : ℕ) → o < p → (if eqb p o then s else 0) ≡ 0
no_place p o s lt = grind (arith, nat_tests)

pub sum_none : {X : Type 0} (f : X → ℕ) (xs : List X) → sum_by f (take 0 xs) ≡ 0
sum_none f [] = refl
sum_none f (x ∷ xs) = refl

-- what stands before a place, and at it, with one more
pub before_place_cons : (place : ℕ) (w : Weight) (ws : List Weight) → before_place place (w ∷ ws) ≡ (if nat_lt w.place place then w.size else 0) + before_place place ws
before_place_cons place w ws = sum_by-cons (λ (v : Weight). if nat_lt v.place place then v.size else 0) w ws

at_place_cons : (place : ℕ) (w : Weight) (ws : List Weight) → at_place place (w ∷ ws) ≡ (if eqb w.place place then w.size else 0) + at_place place ws
at_place_cons place w ws = sum_by-cons (λ (v : Weight). if eqb v.place place then v.size else 0) w ws

-- one place further
one_more : (o k s : ℕ) → (if nat_lt o (k + 1) then s else 0) ≡ (if nat_lt o k then s else 0) + (if eqb o k then s else 0)
one_more o k s = grind (arith, nat_tests)

pub before_more : (k : ℕ) (ws : List Weight) → before_place (k + 1) ws ≡ before_place k ws + at_place k ws
before_more k [] = refl
before_more k (w ∷ ws) =
    let here = one_more w.place k w.size in
    let rest = before_more k ws in
    let further = before_place_cons (k + 1) w ws in
    let before = before_place_cons k w ws in
    let at = at_place_cons k w ws in
    omega (arith, here, rest, further, before, at)

none_before : (o s : ℕ) → (if nat_lt o 0 then s else 0) ≡ 0
none_before o s = grind (arith, nat_tests)

pub before_none : (ws : List Weight) → before_place 0 ws ≡ 0
before_none [] = refl
before_none (w ∷ ws) =
    let here = none_before w.place w.size in
    let rest = before_none ws in
    let before = before_place_cons 0 w ws in
    omega (arith, here, rest, before)
