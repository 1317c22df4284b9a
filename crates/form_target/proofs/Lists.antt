-- Elements of lists, one by one.
use Rattle.std.proofs.Common.{◌≡◌, ◌≢◌, ◌⊎◌, ◌↔◌, ◌∙◌, ℕ, zero, suc, ◌+◌, ◌<◌, ◌≤◌, List, [], ◌∷◌, ◌++◌, length, get_or, All, Contains, AllPairs, Option, Some, None, slice_get, refl, sym, ap, subst, arith, inl, inr}
use Rattle.std.proofs.lemmas.Bool.{cases_lt}
use Rattle.std.proofs.lemmas.List.Elements.{All-nil, All-cons, All-head, All-tail, All-append, All-push, All-contains, Contains-get_or}
use Rattle.std.proofs.lemmas.Option.{slice_get_within, slice_get_read, same_Some}
use Rattle.form_target.specs.Asked.{Pairwise, EachOf, EachBelow}

pub all_left : {X : Type 0} (Q : X → Type 0) (xs ys : List X) → All Q (xs ++ ys) → All Q xs
all_left Q [] ys h = All-nil Q
all_left Q (x ∷ xs) ys h = All-cons Q x xs (All-head Q x (xs ++ ys) h) (all_left Q xs ys (All-tail Q x (xs ++ ys) h))

pub all_right : {X : Type 0} (Q : X → Type 0) (xs ys : List X) → All Q (xs ++ ys) → All Q ys
all_right Q [] ys h = h
all_right Q (x ∷ xs) ys h = all_right Q xs ys (All-tail Q x (xs ++ ys) h)

pub all_one_more : {X : Type 0} (Q : X → Type 0) (xs : List X) (x : X) → All Q (xs ++ x ∷ []) ↔ (All Q xs × Q x)
all_one_more Q xs x = ((λ h. (all_left Q xs (x ∷ []) h, All-head Q x [] (all_right Q xs (x ∷ []) h))), (λ h. All-push Q xs x h.0 h.1))

pub nothing_in : {X : Type 0} (x : X) → Contains [] x → ⊥
nothing_in x (k, lt, e) = omega (arith, lt)

pub first_in : {X : Type 0} (x : X) (xs : List X) → Contains (x ∷ xs) x
first_in x xs = (zero, omega arith, refl)

pub later_in : {X : Type 0} (z x : X) (xs : List X) → Contains xs x → Contains (z ∷ xs) x
later_in z x xs (k, lt, e) = (suc k, omega (arith, lt), e)

in_cases_at : {X : Type 0} (z x : X) (xs : List X) (k : ℕ) → k < length (z ∷ xs) → get_or (z ∷ xs) k x ≡ x → (z ≡ x) ⊎ Contains xs x
in_cases_at z x xs zero lt e = inl e
in_cases_at z x xs (suc k) lt e = inr (k, omega (arith, lt), e)

pub in_cases : {X : Type 0} (z x : X) (xs : List X) → Contains (z ∷ xs) x → (z ≡ x) ⊎ Contains xs x
in_cases z x xs (k, lt, e) = in_cases_at z x xs k lt e

pub one_in : {X : Type 0} (z x : X) → Contains (z ∷ []) x → z ≡ x
one_in z x h = elim (in_cases z x [] h) [ inl e ↦ e | inr never ↦ absurd (nothing_in x never) ]

pub some_in : {X : Type 0} (xs : List X) → (length xs ≡ 0 → ⊥) → (x : X) × Contains xs x
some_in [] none = absurd (none refl)
some_in (x ∷ xs) none = (x, first_in x xs)

pub all_of : {X : Type 0} (Q : X → Type 0) (xs : List X) → ((x : X) → Contains xs x → Q x) → All Q xs
all_of Q xs h = λ k d lt. h (get_or xs k d) (Contains-get_or xs k d lt)

-- each element of the first list with each of the second
abbrev pub Across : {X : Type 0} → (X → X → Type 0) → List X → List X → Type 0
Across {X} R xs ys = (x y : X) → Contains xs x → Contains ys y → R x y

across_head : {X : Type 0} (R : X → X → Type 0) (z : X) (xs ys : List X) → All (R z) ys → Across R xs ys → Across R (z ∷ xs) ys
across_head R z xs ys all cross x y inx iny = elim (in_cases z x xs inx) [
  | inl e ↦ subst (λ k. R k y) e (All-contains (R z) ys y all iny)
  | inr later ↦ cross x y later iny
]

across_tail : {X : Type 0} (R : X → X → Type 0) (z : X) (xs ys : List X) → Across R (z ∷ xs) ys → Across R xs ys
across_tail R z xs ys cross x y inx iny = cross x y (later_in z x xs inx) iny

across_first : {X : Type 0} (R : X → X → Type 0) (z : X) (xs ys : List X) → Across R (z ∷ xs) ys → All (R z) ys
across_first R z xs ys cross = all_of (R z) ys (λ y iny. cross z y (first_in z xs) iny)

-- each two of two lists together: each of the first with each of the second, and each two of either
pub pairwise_parts : {X : Type 0} (R : X → X → Type 0) (xs ys : List X) → Pairwise R (xs ++ ys) → Across R xs ys × Pairwise R xs × Pairwise R ys
pairwise_parts R [] ys h = ((λ x y inx iny. absurd (nothing_in x inx)), tt, h)
pairwise_parts R (z ∷ xs) ys h =
    let (cross, one, two) = pairwise_parts R xs ys h.1 in
    (across_head R z xs ys (all_right (R z) xs ys h.0) cross, (all_left (R z) xs ys h.0, one), two)

pub pairwise_whole : {X : Type 0} (R : X → X → Type 0) (xs ys : List X) → Across R xs ys → Pairwise R xs → Pairwise R ys → Pairwise R (xs ++ ys)
pairwise_whole R [] ys cross one two = two
pairwise_whole R (z ∷ xs) ys cross one two = (All-append (R z) xs ys one.0 (across_first R z xs ys cross), pairwise_whole R xs ys (across_tail R z xs ys cross) one.1 two)

-- what is so of each two different elements of a list without repeats
pub pairwise_at : {X : Type 0} (R : X → X → Type 0) → ((x y : X) → R x y → R y x) → (xs : List X) (x y : X) → Pairwise R xs → Contains xs x → Contains xs y → x ≢ y → R x y
pairwise_at R turn [] x y all inx iny ne = absurd (nothing_in x inx)
pairwise_at R turn (z ∷ xs) x y all inx iny ne = elim (in_cases z x xs inx) [
  | inl e ↦ elim (in_cases z y xs iny) [
    | inl f ↦ absurd (ne (sym e ∙ f))
    | inr later ↦ subst (λ k. R k y) e (All-contains (R z) xs y all.0 later)
  ]
  | inr there ↦ elim (in_cases z y xs iny) [
    | inl f ↦ turn y x (subst (λ k. R k x) f (All-contains (R z) xs x all.0 there))
    | inr later ↦ pairwise_at R turn xs x y all.1 there later ne
  ]
]

pub pairwise_of : {X : Type 0} (R : X → X → Type 0) (xs : List X) → AllPairs (λ x y. x ≢ y) xs → ((x y : X) → Contains xs x → Contains xs y → x ≢ y → R x y) → Pairwise R xs
pairwise_of R [] distinct h = tt
pairwise_of R (z ∷ xs) distinct h = (
  (λ k d lt. h z (get_or xs k d) (first_in z xs) (later_in z (get_or xs k d) xs (Contains-get_or xs k d lt)) (distinct zero (suc k) d (omega arith) (omega (arith, lt)))),
  pairwise_of R xs (λ i j d low high. distinct (suc i) (suc j) d (omega (arith, low)) (omega (arith, high))) (λ x y inx iny ne. h x y (later_in z x xs inx) (later_in z y xs iny) ne),
)

pub few_pairwise : {X : Type 0} (R : X → X → Type 0) (xs : List X) → length xs < 2 → Pairwise R xs
few_pairwise R [] lt = tt
few_pairwise R (x ∷ []) lt = (All-nil (R x), tt)
few_pairwise R (x ∷ y ∷ xs) lt = absurd (omega (arith, lt))

-- elements by their numbers, one more each time
each_before : {X : Type 0} (xs : List X) (n : ℕ) (y : X) (P : ℕ → X → Type 0) → slice_get xs n ≡ Some y → EachBelow xs (n + 1) P → EachBelow xs n P × P n y
each_before xs n y P is h = ((λ k x lt at. h k x (omega (arith, lt)) at), h n y (omega arith) is)

each_at : {X : Type 0} (xs : List X) (n : ℕ) (y : X) (P : ℕ → X → Type 0) → slice_get xs n ≡ Some y → P n y → (k : ℕ) (x : X) → k ≡ n → slice_get xs k ≡ Some x → P k x
each_at xs n y P is h k x same at =
    let there : slice_get xs n ≡ Some x = subst (λ j. slice_get xs j ≡ Some x) same at in
    let is_y : y ≡ x = same_Some y x (sym is ∙ there) in
    subst (λ j. P j x) (sym same) (subst (P n) is_y h)

each_after : {X : Type 0} (xs : List X) (n : ℕ) (y : X) (P : ℕ → X → Type 0) → slice_get xs n ≡ Some y → EachBelow xs n P → P n y → EachBelow xs (n + 1) P
each_after xs n y P is before last k x lt at = elim (cases_lt k n) [
  | inl less ↦ before k x less at
  | inr past ↦ each_at xs n y P is last k x (omega (arith, lt, past)) at
]

pub each_one_more : {X : Type 0} (xs : List X) (n : ℕ) (y : X) (P : ℕ → X → Type 0) → slice_get xs n ≡ Some y → (EachBelow xs n P × P n y) ↔ EachBelow xs (n + 1) P
each_one_more xs n y P is = ((λ h. each_after xs n y P is h.0 h.1), (λ h. each_before xs n y P is h))

pub each_below_all : {X : Type 0} (xs : List X) (n : ℕ) (P : ℕ → X → Type 0) → length xs ≤ n → EachBelow xs n P ↔ EachOf xs P
each_below_all xs n P past = (
  (λ h k x at.
      let lt = slice_get_within xs k x at in
      h k x (omega (arith, lt, past)) at),
  (λ h k x lt at. h k x at),
)

pub none_below : {X : Type 0} (xs : List X) (P : ℕ → X → Type 0) → EachBelow xs 0 P
none_below xs P k x lt at = absurd (omega (arith, lt))

-- the element that a loop has come to
pub item_at : {X : Type 0} (xs : List X) (i n : ℕ) (x : X) → n ≡ i → i < length xs → x ≡ get_or xs i x → slice_get xs n ≡ Some x
item_at xs i n x same lt is = subst (λ k. slice_get xs k ≡ Some x) (sym same) (slice_get_read xs (length xs) i x refl lt is)
