-- Elements of lists and of their fronts.
use Rattle.std.proofs.Common.{◌≡◌, ◌⊎◌, ◌≤◌, ◌<◌, ◌+◌, ℕ, zero, suc, List, [], ◌∷◌, ◌++◌, take, length, All, Contains, Some, slice_get, refl, sym, ap, ◌∙◌, subst, arith, inl, inr}
use Rattle.std.proofs.lemmas.List.{take_more}
use Rattle.std.proofs.lemmas.List.Elements.{All-nil, All-cons, All-append, Contains-append_cases, Contains-append_left, Contains-append_right}
use Rattle.std.proofs.lemmas.Option.{get_or_from_slice_get, slice_get_within}

pub contains_cases : {X : Type 0} (x : X) (xs : List X) (z : X) → Contains (x ∷ xs) z → (x ≡ z) ⊎ Contains xs z
contains_cases x xs z (zero, lt, e) = inl e
contains_cases x xs z (suc k, lt, e) = inr (k, omega arith, e)

pub contains_none : {X : Type 0} (z : X) → Contains [] z → ⊥
contains_none z (k, lt, e) = omega arith

pub contains_later : {X : Type 0} (x : X) (xs : List X) (z : X) → Contains xs z → Contains (x ∷ xs) z
contains_later x xs z (k, lt, e) = (suc k, omega arith, e)

pub contains_first : {X : Type 0} (x : X) (xs : List X) → Contains (x ∷ xs) x
contains_first x xs = (0, omega arith, refl)

one_more : {X : Type 0} (xs : List X) (i : ℕ) (x : X) → i < length xs → slice_get xs i ≡ Some x → take (i + 1) xs ≡ take i xs ++ x ∷ []
one_more xs i x lt at = take_more xs i x lt ∙ ap (λ y. take i xs ++ y ∷ []) (get_or_from_slice_get xs i x x at)

pub more_cases : {X : Type 0} (xs : List X) (i : ℕ) (x z : X) → slice_get xs i ≡ Some x → Contains (take (i + 1) xs) z → Contains (take i xs) z ⊎ (x ≡ z)
more_cases xs i x z at c = elim (Contains-append_cases (take i xs) (x ∷ []) z (subst (λ ys. Contains ys z) (one_more xs i x (slice_get_within xs i x at) at) c)) [
  | inl front ↦ inl front
  | inr last ↦ elim (contains_cases x [] z last) [ inl e ↦ inr e | inr none ↦ absurd (contains_none z none) ]
]

pub more_here : {X : Type 0} (xs : List X) (i : ℕ) (x : X) → slice_get xs i ≡ Some x → Contains (take (i + 1) xs) x
more_here xs i x at = subst (λ ys. Contains ys x) (sym (one_more xs i x (slice_get_within xs i x at) at)) (Contains-append_right (take i xs) (x ∷ []) x (contains_first x []))

pub more_before : {X : Type 0} (xs : List X) (i : ℕ) (x z : X) → slice_get xs i ≡ Some x → Contains (take i xs) z → Contains (take (i + 1) xs) z
more_before xs i x z at c = subst (λ ys. Contains ys z) (sym (one_more xs i x (slice_get_within xs i x at) at)) (Contains-append_left (take i xs) (x ∷ []) z c)

pub take_all : {X : Type 0} (xs : List X) (i : ℕ) → length xs ≤ i → take i xs ≡ xs
take_all [] zero h = refl
take_all [] (suc i) h = refl
take_all (x ∷ xs) zero h = absurd (omega arith)
take_all (x ∷ xs) (suc i) h = ap (λ ys. x ∷ ys) (take_all xs i (omega arith))

pub all_more : {X : Type 0} (P : X → Type 0) (xs : List X) (i : ℕ) (x : X) → slice_get xs i ≡ Some x → All P (take i xs) → P x → All P (take (i + 1) xs)
all_more {X = X} P xs i x at all p = subst (λ (ys : List X). All P ys) (sym (one_more xs i x (slice_get_within xs i x at) at)) (All-append P (take i xs) (x ∷ []) all (All-cons P x [] p (All-nil P)))
