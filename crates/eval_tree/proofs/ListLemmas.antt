-- Lemmas on lists, their members and their fronts.
use Rattle.std.proofs.Common.{◌≡◌, ◌≢◌, ◌⊎◌, ℕ, zero, suc, ◌+◌, ◌<◌, ◌≤◌, List, [], ◌∷◌, ◌++◌, refl, sym, ap, subst, ◌∙◌, inl, inr, arith, map, take, length, Contains, AllPairs, All, slice_get, Some}
use Rattle.std.proofs.lemmas.List.{take_more}
use Rattle.std.proofs.lemmas.List.Elements.{Contains-append_cases, Contains-append_left, Contains-append_right, All-nil, All-cons}
use Rattle.std.proofs.lemmas.List.Kept.{AllPairs-cons}
use Rattle.std.proofs.lemmas.Option.{get_or_from_slice_get}
use Rattle.core_laws.specs.Listed.{AreOnce}

module _ {X : Type 0} where
  pub contains_first : (x : X) (xs : List X) → Contains (x ∷ xs) x
  contains_first x xs = (0, omega arith, refl)

  pub contains_later : (x : X) (xs : List X) (z : X) → Contains xs z → Contains (x ∷ xs) z
  contains_later x xs z (k, lt, e) = (suc k, omega arith, e)

  pub contains_cases : (x : X) (xs : List X) (z : X) → Contains (x ∷ xs) z → (x ≡ z) ⊎ Contains xs z
  contains_cases x xs z (zero, lt, e) = inl e
  contains_cases x xs z (suc k, lt, e) = inr (k, omega arith, e)

  pub contains_none : (z : X) → Contains [] z → ⊥
  contains_none z (k, lt, e) = omega arith

  pub take_all : (xs : List X) (i : ℕ) → length xs ≤ i → take i xs ≡ xs
  take_all [] zero h = refl
  take_all [] (suc i) h = refl
  take_all (x ∷ xs) zero h = absurd (omega arith)
  take_all (x ∷ xs) (suc i) h = ap (λ ys. x ∷ ys) (take_all xs i (omega arith))

  pub take_front : (xs : List X) (i : ℕ) (z : X) → Contains (take i xs) z → Contains xs z
  take_front [] zero z c = c
  take_front [] (suc i) z c = c
  take_front (x ∷ xs) zero z c = absurd (contains_none z c)
  take_front (x ∷ xs) (suc i) z c = elim (contains_cases x (take i xs) z c) [
    | inl e ↦ subst (λ y. Contains (x ∷ xs) y) e (contains_first x xs)
    | inr d ↦ contains_later x xs z (take_front xs i z d)
  ]

  pub one_more : (xs : List X) (i : ℕ) (x : X) → i < length xs → slice_get xs i ≡ Some x → take (i + 1) xs ≡ take i xs ++ x ∷ []
  one_more xs i x lt at = take_more xs i x lt ∙ ap (λ y. take i xs ++ y ∷ []) (get_or_from_slice_get xs i x x at)

  -- the members of a front that is one longer
  pub more_cases : (xs : List X) (i : ℕ) (x z : X) → i < length xs → slice_get xs i ≡ Some x → Contains (take (i + 1) xs) z → Contains (take i xs) z ⊎ (x ≡ z)
  more_cases xs i x z lt at c = elim (Contains-append_cases (take i xs) (x ∷ []) z (subst (λ ys. Contains ys z) (one_more xs i x lt at) c)) [
    | inl front ↦ inl front
    | inr last ↦ elim (contains_cases x [] z last) [ inl e ↦ inr e | inr none ↦ absurd (contains_none z none) ]
  ]

  pub more_here : (xs : List X) (i : ℕ) (x : X) → i < length xs → slice_get xs i ≡ Some x → Contains (take (i + 1) xs) x
  more_here xs i x lt at = subst (λ ys. Contains ys x) (sym (one_more xs i x lt at)) (Contains-append_right (take i xs) (x ∷ []) x (contains_first x []))

  pub more_before : (xs : List X) (i : ℕ) (x z : X) → i < length xs → slice_get xs i ≡ Some x → Contains (take i xs) z → Contains (take (i + 1) xs) z
  more_before xs i x z lt at c = subst (λ ys. Contains ys z) (sym (one_more xs i x lt at)) (Contains-append_left (take i xs) (x ∷ []) z c)

  pub once_append : (xs ys : List X) → AreOnce xs → AreOnce ys → ((z : X) → Contains xs z → Contains ys z → ⊥) → AreOnce (xs ++ ys)
  once_append [] ys o u apart = u
  once_append (x ∷ xs) ys o u apart = (
    (λ c. elim (Contains-append_cases xs ys x c) [ inl d ↦ o.0 d | inr d ↦ apart x (contains_first x xs) d ]),
    once_append xs ys o.1 u (λ z c d. apart z (contains_later x xs z c) d),
  )

  all_apart : (x : X) (xs : List X) → ¬ Contains xs x → All (λ z. x ≢ z) xs
  all_apart x [] none = All-nil (λ z. x ≢ z)
  all_apart x (y ∷ ys) none = All-cons (λ z. x ≢ z) y ys (λ e. none (subst (λ z. Contains (y ∷ ys) z) (sym e) (contains_first y ys))) (all_apart x ys (λ c. none (contains_later y ys x c)))

  pub once_pairs : (xs : List X) → AreOnce xs → AllPairs (λ x z. x ≢ z) xs
  once_pairs [] o = λ i j d lt high. absurd (omega arith)
  once_pairs (x ∷ xs) o = AllPairs-cons (λ y z. y ≢ z) x xs (all_apart x xs o.0) (once_pairs xs o.1)

module _ {X Y : Type 0} (f : X → Y) where
  pub contains_map : (xs : List X) (x : X) → Contains xs x → Contains (map f xs) (f x)
  contains_map [] x c = absurd (contains_none x c)
  contains_map (y ∷ ys) x c = elim (contains_cases y ys x c) [
    | inl e ↦ subst (λ z. Contains (f y ∷ map f ys) (f z)) e (contains_first (f y) (map f ys))
    | inr d ↦ contains_later (f y) (map f ys) (f x) (contains_map ys x d)
  ]

  pub map_contains : (xs : List X) (y : Y) → Contains (map f xs) y → (x : X) × Contains xs x × (f x ≡ y)
  map_contains [] y c = absurd (contains_none y c)
  map_contains (x ∷ xs) y c = elim (contains_cases (f x) (map f xs) y c) [
    | inl e ↦ (x, contains_first x xs, e)
    | inr d ↦ let (z, k, e) = map_contains xs y d in (z, contains_later x xs z k, e)
  ]

  pub once_map : ((x z : X) → f x ≡ f z → x ≡ z) → (xs : List X) → AreOnce xs → AreOnce (map f xs)
  once_map exact [] o = tt
  once_map exact (x ∷ xs) o = (
    (λ c. let (z, k, e) = map_contains xs (f x) c in o.0 (subst (λ y. Contains xs y) (exact z x e) k)),
    once_map exact xs o.1,
  )
