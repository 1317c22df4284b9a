-- The place of the first of a list that passes a test.
use Rattle.std.proofs.Common.{◌≡◌, ◌⊎◌, ℕ, ◌+◌, ◌<◌, ◌≤◌, Bool, true, false, List, [], ◌∷◌, length, get_or, refl, inl, inr, sym, ap, ◌∙◌, arith}
use Rattle.std.specs.List.{position_or_len}
use Rattle.std.proofs.lemmas.Bool.{cases_lt}
use Rattle.std.proofs.lemmas.List.{get_or_default}
use Rattle.std.proofs.lemmas.List.Sums.{position_or_len_is}

-- none passes
pub nowhere : {X : Type 0} (p : X → Bool) (xs : List X) (n : ℕ) (d : X) → length xs ≤ n → ((k : ℕ) → k < n → p (get_or xs k d) ≡ false) → length xs ≡ position_or_len p xs
nowhere p xs n d h none = sym (position_or_len_is p xs (length xs) d (omega arith) (λ k below. none k (omega arith)) (λ below. absurd (omega arith)))

-- one more fails
pub further_fails : {X : Type 0} (p : X → Bool) (xs : List X) (n : ℕ) (x : X) → n < length xs → x ≡ get_or xs n x → p x ≡ false → ((k : ℕ) (d : X) → k < n → p (get_or xs k d) ≡ false) → (k : ℕ) (d : X) → k < n + 1 → p (get_or xs k d) ≡ false
further_fails p xs n x lt is fails before k d below = by_place (cases_lt k n)
  where
    by_place : (k < n) ⊎ (n ≤ k) → p (get_or xs k d) ≡ false
    by_place (inl less) = before k d less
    by_place (inr more) =
        let same : k ≡ n = omega arith in
        ap (λ i. p (get_or xs i d)) same ∙ ap p (get_or_default xs n d x lt ∙ sym is) ∙ fails

-- the first that passes
pub found_there : {X : Type 0} (p : X → Bool) (xs : List X) (n : ℕ) (x : X) → n < length xs → x ≡ get_or xs n x → p x ≡ true → ((k : ℕ) (d : X) → k < n → p (get_or xs k d) ≡ false) → n ≡ position_or_len p xs
found_there p xs n x lt is passes before = sym (position_or_len_is p xs n x (omega arith) (λ k below. before k x below) (λ below. ap p (sym is) ∙ passes))

-- none passes, whatever stands for what is missing
pub passes_nowhere : {X : Type 0} (p : X → Bool) (xs : List X) (n : ℕ) → length xs ≤ n → ((k : ℕ) (d : X) → k < n → p (get_or xs k d) ≡ false) → length xs ≡ position_or_len p xs
passes_nowhere p [] n h none = refl
passes_nowhere p (x ∷ xs) n h none = nowhere p (x ∷ xs) n x h (λ k below. none k x below)
