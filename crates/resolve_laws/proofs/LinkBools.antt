-- Facts of Bools, and of lists that a fold passes over.
use Rattle.std.proofs.Common.{◌≡◌, ◌⊎◌, inl, inr, zero, suc, Bool, true, false, ◌&&◌, if◌then◌else◌, List, [], ◌∷◌, Contains, fold, map, refl, subst, arith}

pub both_left : (a b : Bool) → (a && b) ≡ true → a ≡ true
both_left true b h = refl
both_left false b h = h

pub both_right : (a b : Bool) → (a && b) ≡ true → b ≡ true
both_right true b h = h
both_right false b h = cc

-- what stands behind a condition is true in one of its cases
pub chosen : (test a b : Bool) → (if test then a else b) ≡ true → (a ≡ true) ⊎ (b ≡ true)
chosen true a b h = inl h
chosen false a b h = inr h

none_in : {X : Type 0} (x : X) → Contains [] x → ⊥
none_in x (k, inside, is) = omega arith

-- an element of a list is its first one, or stands in the rest
pub cases_in : {X : Type 0} (y : X) (xs : List X) (x : X) → Contains (y ∷ xs) x → (y ≡ x) ⊎ Contains xs x
cases_in y xs x (zero, inside, is) = inl is
cases_in y xs x (suc k, inside, is) = inr (k, omega arith, is)

-- where a fold ends well, and each step that ends well began well over an element that is fine, it began well and all elements are fine
module _ {X Y S : Type 0} (add : S → Y → S) (f : X → Y) (good : S → Bool) (IsFine : X → Type 0)
    (step : (s : S) (x : X) → good (add s (f x)) ≡ true → (good s ≡ true) × IsFine x) where
  -- with one more element at the front
  front_fine : (s : S) (y : X) (xs : List X) → good (add s (f y)) ≡ true → ((x : X) → Contains xs x → IsFine x) → (good s ≡ true) × ((x : X) → Contains (y ∷ xs) x → IsFine x)
  front_fine s y xs h rest = (now.0, each)
    where
      now : (good s ≡ true) × IsFine y
      now = step s y h

      each : (x : X) → Contains (y ∷ xs) x → IsFine x
      each x there = elim (cases_in y xs x there) [
        | inl is ↦ subst (λ (z : X). IsFine z) is now.1
        | inr behind ↦ rest x behind
      ]

  pub fold_fine : (s : S) (xs : List X) → good (fold add s (map f xs)) ≡ true → (good s ≡ true) × ((x : X) → Contains xs x → IsFine x)
  fold_fine s [] h = (h, λ x there. absurd (none_in x there))
  fold_fine s (y ∷ xs) h =
      let rest : (good (add s (f y)) ≡ true) × ((x : X) → Contains xs x → IsFine x) = fold_fine (add s (f y)) xs h in
      front_fine s y xs rest.0 rest.1
