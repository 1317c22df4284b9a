-- Lists in which different places have different keys.
use Rattle.std.proofs.Common.{◌≡◌, ◌⊎◌, inl, inr, ℕ, zero, suc, ◌-◌, ◌<◌, ◌≤◌, List, [], ◌∷◌, ◌++◌, length, get_or, All, Contains, Some, slice_get, refl, sym, ap, ◌∙◌, arith}
use Rattle.std.proofs.lemmas.Bool.{cases_lt}
use Rattle.std.proofs.lemmas.Option.{slice_get_within, get_or_from_slice_get}
use Rattle.std.proofs.lemmas.List.Elements.{Contains-get_or}

pub front_get : {X : Type 0} (xs ys : List X) (i : ℕ) → i < length xs → slice_get (xs ++ ys) i ≡ slice_get xs i
front_get [] ys i lt = absurd (omega arith)
front_get (x ∷ xs) ys zero lt = refl
front_get (x ∷ xs) ys (suc i) lt = front_get xs ys i (omega arith)

pub back_get : {X : Type 0} (xs ys : List X) (i : ℕ) → length xs ≤ i → slice_get (xs ++ ys) i ≡ slice_get ys (i - length xs)
back_get [] ys i le = ap (slice_get ys) (let e : i ≡ i - 0 = omega arith in e)
back_get (x ∷ xs) ys zero le = absurd (omega arith)
back_get (x ∷ xs) ys (suc i) le = back_get xs ys i (omega arith) ∙ ap (slice_get ys) (let e : i - length xs ≡ suc i - length (x ∷ xs) = omega arith in e)

pub found : {X : Type 0} (xs : List X) (i : ℕ) (x : X) → slice_get xs i ≡ Some x → Contains xs x
found xs i x e = (i, slice_get_within xs i x e, get_or_from_slice_get xs i x x e)

in_one_at : {X : Type 0} (x t : X) (k : ℕ) → k < 1 → get_or (x ∷ []) k t ≡ t → t ≡ x
in_one_at x t zero lt e = sym e
in_one_at x t (suc k) lt e = absurd (omega arith)

pub in_one : {X : Type 0} (x t : X) → Contains (x ∷ []) t → t ≡ x
in_one x t c = in_one_at x t c.0 c.1 c.2

pub in_none : {X : Type 0} (t : X) → Contains [] t → ⊥
in_none t c = let lt = c.1 in omega (arith, lt)

pub all_of : {X : Type 0} (P : X → Type 0) (xs : List X) → ((t : X) → Contains xs t → P t) → All P xs
all_of P xs each k d lt = each (get_or xs k d) (Contains-get_or xs k d lt)

abbrev pub IsApart : {X K : Type 0} → (X → K) → List X → Type 0
IsApart {X} {K} key xs = (i j : ℕ) (x y : X) → slice_get xs i ≡ Some x → slice_get xs j ≡ Some y → key x ≡ key y → i ≡ j

module _ {X K : Type 0} (key : X → K) where
  pub apart_none : IsApart key []
  apart_none i j x y e f same = let lt = slice_get_within [] i x e in absurd (omega (arith, lt))

  pub apart_one : (z : X) → IsApart key (z ∷ [])
  apart_one z i j x y e f same =
      let lt = slice_get_within (z ∷ []) i x e in
      let le = slice_get_within (z ∷ []) j y f in
      omega (arith, lt, le)

  both_at : (xs ys : List X) → IsApart key xs → IsApart key ys → ((x y : X) → Contains xs x → Contains ys y → key x ≡ key y → ⊥) → (i j : ℕ) (x y : X) → slice_get (xs ++ ys) i ≡ Some x → slice_get (xs ++ ys) j ≡ Some y → key x ≡ key y → (i < length xs) ⊎ (length xs ≤ i) → (j < length xs) ⊎ (length xs ≤ j) → i ≡ j
  both_at xs ys a b cross i j x y e f same (inl lt) (inl le) = a i j x y (sym (front_get xs ys i lt) ∙ e) (sym (front_get xs ys j le) ∙ f) same
  both_at xs ys a b cross i j x y e f same (inl lt) (inr far) = absurd (cross x y (found xs i x (sym (front_get xs ys i lt) ∙ e)) (found ys (j - length xs) y (sym (back_get xs ys j far) ∙ f)) same)
  both_at xs ys a b cross i j x y e f same (inr far) (inl lt) = absurd (cross y x (found xs j y (sym (front_get xs ys j lt) ∙ f)) (found ys (i - length xs) x (sym (back_get xs ys i far) ∙ e)) (sym same))
  both_at xs ys a b cross i j x y e f same (inr far) (inr off) =
      let is = b (i - length xs) (j - length xs) x y (sym (back_get xs ys i far) ∙ e) (sym (back_get xs ys j off) ∙ f) same in
      omega (arith, is, far, off)

  -- of two lists that have no key in common
  pub apart_both : (xs ys : List X) → IsApart key xs → IsApart key ys → ((x y : X) → Contains xs x → Contains ys y → key x ≡ key y → ⊥) → IsApart key (xs ++ ys)
  apart_both xs ys a b cross i j x y e f same = both_at xs ys a b cross i j x y e f same (cases_lt i (length xs)) (cases_lt j (length xs))
