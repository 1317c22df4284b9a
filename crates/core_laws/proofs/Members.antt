-- Items of lists, and how many different ones there can be.
use Rattle.std.proofs.Common.{◌≡◌, ◌∙◌, ◌⊎◌, inl, inr, ℕ, zero, suc, ◌<◌, ◌≤◌, List, [], ◌∷◌, ◌++◌, map, length, Contains, refl, sym, ap, subst, arith}
use Rattle.std.specs.List.{flat_map}
use Rattle.std.proofs.lemmas.Bool.{cases_lt}

abbrev pub Member : {X : Type 0} → X → List X → Type 0
Member x [] = ⊥
Member x (y ∷ ys) = (y ≡ x) ⊎ Member x ys

pub of_contains : {X : Type 0} (xs : List X) (x : X) → Contains xs x → Member x xs
of_contains [] x (k, lt, e) = absurd (omega (arith, lt))
of_contains (y ∷ ys) x (zero, lt, e) = inl e
of_contains (y ∷ ys) x (suc k, lt, e) = inr (of_contains ys x (k, omega (arith, lt), e))

pub to_contains : {X : Type 0} (xs : List X) (x : X) → Member x xs → Contains xs x
to_contains [] x m = elim m [ ]
to_contains (y ∷ ys) x (inl e) = (0, omega arith, e)
to_contains (y ∷ ys) x (inr m) = let (k, lt, e) = to_contains ys x m in (suc k, omega (arith, lt), e)

pub member_left : {X : Type 0} (xs ys : List X) (x : X) → Member x xs → Member x (xs ++ ys)
member_left [] ys x m = elim m [ ]
member_left (z ∷ xs) ys x (inl e) = inl e
member_left (z ∷ xs) ys x (inr m) = inr (member_left xs ys x m)

pub member_right : {X : Type 0} (xs ys : List X) (x : X) → Member x ys → Member x (xs ++ ys)
member_right [] ys x m = m
member_right (z ∷ xs) ys x m = inr (member_right xs ys x m)

pub member_map : {X Y : Type 0} (f : X → Y) (xs : List X) (x : X) → Member x xs → Member (f x) (map f xs)
member_map f [] x m = elim m [ ]
member_map f (z ∷ xs) x (inl e) = inl (ap f e)
member_map f (z ∷ xs) x (inr m) = inr (member_map f xs x m)

pub member_flat : {X Y : Type 0} (f : X → List Y) (xs : List X) (x : X) (y : Y) → Member x xs → Member y (f x) → Member y (flat_map f xs)
member_flat f [] x y n m = elim n [ ]
member_flat f (z ∷ xs) x y (inl e) m = member_left (f z) (flat_map f xs) y (subst (λ w. Member y (f w)) (sym e) m)
member_flat f (z ∷ xs) x y (inr n) m = member_right (f z) (flat_map f xs) y (member_flat f xs x y n m)

-- ---- as many different items as there are in a list at most

abbrev pub Different : {X : Type 0} → List X → Type 0
Different [] = Unit {0}
Different (x ∷ xs) = ¬ Member x xs × Different xs

without : {X : Type 0} (ys : List X) (x : X) → Member x ys → (zs : List X) × (length ys ≡ suc (length zs)) × ((z : X) → Member z ys → ¬ (x ≡ z) → Member z zs)
without [] x m = elim m [ ]
without (y ∷ ys) x (inl e) = (ys, refl, λ z m other. elim m [ inl is ↦ absurd (other (sym e ∙ is)) | inr later ↦ later ])
without (y ∷ ys) x (inr n) =
    let (zs, count, others) = without ys x n in
    (y ∷ zs, ap suc count, λ z m other. elim m [ inl is ↦ inl is | inr later ↦ inr (others z later other) ])

pub at_most : {X : Type 0} (xs ys : List X) → Different xs → ((x : X) → Member x xs → Member x ys) → length xs ≤ length ys
at_most [] ys different among = omega arith
at_most (x ∷ xs) ys different among =
    let (zs, count, others) = without ys x (among x (inl refl)) in
    let fewer = at_most xs zs different.1 (λ z m. others z (among z (inr m)) (λ e. different.0 (subst (λ w. Member w xs) (sym e) m))) in
    omega (arith, count, fewer)

-- the numbers below one
abbrev below : ℕ → List ℕ
below zero = []
below (suc n) = n ∷ below n

below_count : (n : ℕ) → length (below n) ≡ n
below_count zero = refl
below_count (suc n) = ap suc (below_count n)

is_below : (n k : ℕ) → k < n → Member k (below n)
is_below zero k lt = absurd (omega (arith, lt))
is_below (suc n) k lt = elim (cases_lt k n) [ inl less ↦ inr (is_below n k less) | inr more ↦ inl (omega (arith, lt, more)) ]

pub few_below : (n : ℕ) (xs : List ℕ) → Different xs → ((k : ℕ) → Member k xs → k < n) → length xs ≤ n
few_below n xs different small =
    let fewer = at_most xs (below n) different (λ k m. is_below n k (small k m)) in
    let count = below_count n in
    omega (arith, fewer, count)
