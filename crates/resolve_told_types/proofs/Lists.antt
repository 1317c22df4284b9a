-- What holds of each item of a list so far, and the items of lists that are made of others.
use Rattle.std.proofs.Common.{◌≡◌, ◌∙◌, inl, inr, ℕ, ◌+◌, ◌<◌, ◌≤◌, List, [], ◌∷◌, length, map, take, get_or, Contains, All, Option, Some, None, slice_get, refl, sym, ap, subst, arith}
use Rattle.std.specs.List.{flat_map}
use Rattle.std.specs.Option.{option_map}
use Rattle.std.proofs.lemmas.Bool.{cases_lt}
use Rattle.std.proofs.lemmas.List.{take_all}
use Rattle.std.proofs.lemmas.List.Elements.{All-more, Contains-append_left, Contains-append_right, Contains-append_cases, Contains-push, Contains-push_cases}
use Rattle.std.proofs.lemmas.Option.{slice_get_within, slice_get-map}

pub all_more : {X : Type 0} (P : X → Type 0) (l : List X) (i : ℕ) (g : X) → i < length l → g ≡ get_or l i g → All P (take i l) → P g → All P (take (i + 1) l)
all_more P l i g lt item all here = All-more P l i g lt all (subst P item here)

pub all_whole : {X : Type 0} (P : X → Type 0) (l : List X) (i : ℕ) → length l ≤ i → All P (take i l) → All P l
all_whole {X = X} P l i le all = subst (λ (k : List X). All P k) (take_all i l le) all

-- what holds of each place before one, and of it, holds of each place before the next
module _ {X : Type 0} (P : ℕ → X → Type 0) (l : List X) where
  pub front_more : (n : ℕ) → ((k : ℕ) (x : X) → k < n → slice_get l k ≡ Some x → P k x) → ((x : X) → slice_get l n ≡ Some x → P n x) → (k : ℕ) (x : X) → k < n + 1 → slice_get l k ≡ Some x → P k x
  front_more n before here k x lt at = elim (cases_lt k n) [
    | inl sooner ↦ before k x sooner at
    | inr last ↦ let e : n ≡ k = omega arith in subst (λ j. P j x) e (here x (subst (λ j. slice_get l j ≡ Some x) (sym e) at))
  ]

  pub front_all : (n : ℕ) → length l ≤ n → ((k : ℕ) (x : X) → k < n → slice_get l k ≡ Some x → P k x) → (k : ℕ) (x : X) → slice_get l k ≡ Some x → P k x
  front_all n high before k x at = before k x (let within = slice_get_within l k x at in omega arith) at

pub none_there : {X : Type 0} (x : X) → Contains [] x → ⊥
none_there x h = omega (arith, h.1)

-- a list of one item has no other
pub only_one : {X : Type 0} (x y : X) → Contains (x ∷ []) y → x ≡ y
only_one x y h = elim (Contains-push_cases [] x y h) [ inl none ↦ absurd (none_there y none) | inr e ↦ e ]

of_some : {X Y : Type 0} (f : X → Y) (o : Option X) (y : Y) → option_map f o ≡ Some y → (x : X) × (o ≡ Some x) × (f x ≡ y)
of_some f None y e = absurd (cc)
of_some f (Some x) y e = (x, refl, cc)

-- what stands at a place of a list that a function makes of another
pub map_at : {X Y : Type 0} (f : X → Y) (xs : List X) (k : ℕ) (y : Y) → slice_get (map f xs) k ≡ Some y → (x : X) × (slice_get xs k ≡ Some x) × (f x ≡ y)
map_at f xs k y at = of_some f (slice_get xs k) y (sym (slice_get-map f xs k) ∙ at)

pub map_there : {X Y : Type 0} (f : X → Y) (xs : List X) (k : ℕ) (x : X) → slice_get xs k ≡ Some x → slice_get (map f xs) k ≡ Some (f x)
map_there f xs k x at = slice_get-map f xs k ∙ ap (option_map f) at

-- the items of such a list
pub in_map : {X Y : Type 0} (f : X → Y) (xs : List X) (y : Y) → Contains (map f xs) y → (x : X) × Contains xs x × (f x ≡ y)
in_map f [] y h = absurd (none_there y h)
in_map f (x ∷ xs) y h = elim (Contains-append_cases (f x ∷ []) (map f xs) y h) [
  | inl first ↦ (x, Contains-append_left (x ∷ []) xs x (Contains-push [] x), only_one (f x) y first)
  | inr later ↦ let r = in_map f xs y later in (r.0, Contains-append_right (x ∷ []) xs r.0 r.1, r.2)
]

cons_there : {X : Type 0} (x y : X) (xs : List X) → x ≡ y → Contains (x ∷ xs) y
cons_there x y xs e = subst (λ z. Contains (x ∷ xs) z) e (Contains-append_left (x ∷ []) xs x (Contains-push [] x))

pub map_in : {X Y : Type 0} (f : X → Y) (xs : List X) (x : X) → Contains xs x → Contains (map f xs) (f x)
map_in f [] x h = absurd (none_there x h)
map_in f (z ∷ xs) x h = elim (Contains-append_cases (z ∷ []) xs x h) [
  | inl first ↦ cons_there (f z) (f x) (map f xs) (ap f (only_one z x first))
  | inr later ↦ Contains-append_right (f z ∷ []) (map f xs) (f x) (map_in f xs x later)
]

-- the items of the lists that a function makes of each, one behind the other
pub in_flat_map : {X Y : Type 0} (f : X → List Y) (xs : List X) (y : Y) → Contains (flat_map f xs) y → (x : X) × Contains xs x × Contains (f x) y
in_flat_map f [] y h = absurd (none_there y h)
in_flat_map f (x ∷ xs) y h = elim (Contains-append_cases (f x) (flat_map f xs) y h) [
  | inl first ↦ (x, Contains-append_left (x ∷ []) xs x (Contains-push [] x), first)
  | inr later ↦ let r = in_flat_map f xs y later in (r.0, Contains-append_right (x ∷ []) xs r.0 r.1, r.2)
]

pub flat_map_in : {X Y : Type 0} (f : X → List Y) (xs : List X) (x : X) (y : Y) → Contains xs x → Contains (f x) y → Contains (flat_map f xs) y
flat_map_in f [] x y h there = absurd (none_there x h)
flat_map_in {Y = Y} f (z ∷ xs) x y h there = elim (Contains-append_cases (z ∷ []) xs x h) [
  | inl first ↦ Contains-append_left (f z) (flat_map f xs) y (subst (λ (ys : List Y). Contains ys y) (sym (ap f (only_one z x first))) there)
  | inr later ↦ Contains-append_right (f z) (flat_map f xs) y (flat_map_in f xs x y later there)
]
