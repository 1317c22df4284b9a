-- Two lists without repeats that have the same members have the same length and the same sums.
use Rattle.std.specs.Prelude.{◌≡◌, ◌≢◌, ◌↔◌, ◌⊎◌, ℕ, zero, suc, ◌<◌, List, [], ◌∷◌, map, length, Contains, AllPairs, slice_index_or, ℤ, ◌+ℤ◌}
use Rattle.std.proofs.Common.{inl, inr, refl, sym, ap, subst, ◌∙◌, arith}
use Rattle.std.proofs.Math.IntN.{+ℤ_comm, +ℤ_assoc}
use Rattle.core_meaning.specs.Integers.{sum_of}
use Rattle.core_laws.specs.Listed.{AreOnce}

-- the list without the member at a place
abbrev pub without : {X : Type 0} → ℕ → List X → List X
without k [] = []
without zero (x ∷ xs) = xs
without (suc k) (x ∷ xs) = x ∷ without k xs

module _ {X : Type 0} where
  contains_tail : (x : X) (xs : List X) (z : X) → Contains xs z → Contains (x ∷ xs) z
  contains_tail x xs z (k, lt, e) = (suc k, omega arith, e)

  contains_cases : (x : X) (xs : List X) (z : X) → Contains (x ∷ xs) z → (x ≡ z) ⊎ Contains xs z
  contains_cases x xs z (zero, lt, e) = inl e
  contains_cases x xs z (suc k, lt, e) = inr (k, omega arith, e)

  not_again : (x : X) (xs : List X) → AllPairs (λ y z. y ≢ z) (x ∷ xs) → ¬ Contains xs x
  not_again x xs apart (k, lt, e) = apart zero (suc k) x (omega arith) (omega arith) (sym e)

  pairs_tail : (x : X) (xs : List X) → AllPairs (λ y z. y ≢ z) (x ∷ xs) → AllPairs (λ y z. y ≢ z) xs
  pairs_tail x xs apart i j d lt inside = apart (suc i) (suc j) d (omega arith) (omega arith)

  pub once : (xs : List X) → AllPairs (λ y z. y ≢ z) xs → AreOnce xs
  once [] apart = tt
  once (x ∷ xs) apart = (not_again x xs apart, once xs (pairs_tail x xs apart))

  without_length : (k : ℕ) (ys : List X) → k < length ys → length ys ≡ suc (length (without k ys))
  without_length k [] lt = absurd (omega arith)
  without_length zero (y ∷ ys) lt = refl
  without_length (suc k) (y ∷ ys) lt = ap suc (without_length k ys (omega arith))

  without_inside : (k : ℕ) (ys : List X) (z : X) → Contains (without k ys) z → Contains ys z
  without_inside k [] z c = c
  without_inside zero (y ∷ ys) z c = contains_tail y ys z c
  without_inside (suc k) (y ∷ ys) z c = elim (contains_cases y (without k ys) z c) [
    | inl e ↦ (zero, omega arith, e)
    | inr d ↦ contains_tail y ys z (without_inside k ys z d)
  ]

  without_others : (k : ℕ) (ys : List X) (x z : X) → slice_index_or ys k x ≡ x → k < length ys → x ≢ z → Contains ys z → Contains (without k ys) z
  without_others k [] x z e lt other c = c
  without_others zero (y ∷ ys) x z e lt other c = elim (contains_cases y ys z c) [
    | inl same ↦ absurd (other (sym e ∙ same))
    | inr d ↦ d
  ]
  without_others (suc k) (y ∷ ys) x z e lt other c = elim (contains_cases y ys z c) [
    | inl same ↦ (zero, omega arith, same)
    | inr d ↦ contains_tail y (without k ys) z (without_others k ys x z e (omega arith) other d)
  ]

  without_gone : (k : ℕ) (ys : List X) (x : X) → slice_index_or ys k x ≡ x → k < length ys → AreOnce ys → ¬ Contains (without k ys) x
  without_gone k [] x e lt o c = absurd (omega arith)
  without_gone zero (y ∷ ys) x e lt o c = o.0 (subst (λ v. Contains ys v) (sym e) c)
  without_gone (suc k) (y ∷ ys) x e lt o c = elim (contains_cases y (without k ys) x c) [
    | inl same ↦ o.0 (subst (λ v. Contains ys v) (sym same) (k, omega arith, e))
    | inr d ↦ without_gone k ys x e (omega arith) o.1 d
  ]

  without_once : (k : ℕ) (ys : List X) → AreOnce ys → AreOnce (without k ys)
  without_once k [] o = o
  without_once zero (y ∷ ys) o = o.1
  without_once (suc k) (y ∷ ys) o = ((λ c. o.0 (without_inside k ys y c)), without_once k ys o.1)

  without_sum : (f : X → ℤ) (k : ℕ) (ys : List X) (x : X) → slice_index_or ys k x ≡ x → k < length ys → sum_of (map f ys) ≡ f x +ℤ sum_of (map f (without k ys))
  without_sum f k [] x e lt = absurd (omega arith)
  without_sum f zero (y ∷ ys) x e lt = ap (λ v. f v +ℤ sum_of (map f ys)) e
  without_sum f (suc k) (y ∷ ys) x e lt =
      ap (λ s. f y +ℤ s) (without_sum f k ys x e (omega arith))
      ∙ sym (+ℤ_assoc (f y) (f x) (sum_of (map f (without k ys))))
      ∙ ap (λ s. s +ℤ sum_of (map f (without k ys))) (+ℤ_comm (f y) (f x))
      ∙ +ℤ_assoc (f x) (f y) (sum_of (map f (without k ys)))

  -- the same members
  abbrev pub SameMembers : List X → List X → Type 0
  SameMembers xs ys = (z : X) → Contains xs z ↔ Contains ys z

  rest_same : (x : X) (xs ys : List X) (k : ℕ) → slice_index_or ys k x ≡ x → k < length ys → AreOnce (x ∷ xs) → AreOnce ys → SameMembers (x ∷ xs) ys → SameMembers xs (without k ys)
  rest_same x xs ys k e lt o u same z = (
    (λ c. without_others k ys x z e lt (λ eq. o.0 (subst (λ v. Contains xs v) (sym eq) c)) ((same z).0 (contains_tail x xs z c))),
    (λ c. elim (contains_cases x xs z ((same z).1 (without_inside k ys z c))) [
      | inl eq ↦ absurd (without_gone k ys x e lt u (subst (λ v. Contains (without k ys) v) (sym eq) c))
      | inr d ↦ d
    ]),
  )

  none_left : (ys : List X) → SameMembers [] ys → ys ≡ []
  none_left [] same = refl
  none_left (y ∷ ys) same = absurd (let (k, lt, e) = (same y).1 (zero, omega arith, refl) in omega arith)

  pub same_length : (xs ys : List X) → AreOnce xs → AreOnce ys → SameMembers xs ys → length xs ≡ length ys
  same_length [] ys o u same = ap length (sym (none_left ys same))
  same_length (x ∷ xs) ys o u same =
      let (k, lt, e) = (same x).0 (zero, omega arith, refl) in
      ap suc (same_length xs (without k ys) o.1 (without_once k ys u) (rest_same x xs ys k e lt o u same)) ∙ sym (without_length k ys lt)

  pub same_sum : (f : X → ℤ) (xs ys : List X) → AreOnce xs → AreOnce ys → SameMembers xs ys → sum_of (map f xs) ≡ sum_of (map f ys)
  same_sum f [] ys o u same = ap (λ l. sum_of (map f l)) (sym (none_left ys same))
  same_sum f (x ∷ xs) ys o u same =
      let (k, lt, e) = (same x).0 (zero, omega arith, refl) in
      ap (λ s. f x +ℤ s) (same_sum f xs (without k ys) o.1 (without_once k ys u) (rest_same x xs ys k e lt o u same)) ∙ sym (without_sum f k ys x e lt)
