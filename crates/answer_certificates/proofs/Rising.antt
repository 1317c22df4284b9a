-- Lists of numbers that rise.
use Rattle.std.proofs.Common.{◌≡◌, ◌⊎◌, inl, inr, ℕ, ◌+◌, ◌<◌, ◌≤◌, List, [], ◌∷◌, ◌++◌, length, get_or, All, arith, length-append}
use Rattle.std.specs.List.Sorted.{IsStrictlyIncreasing}
use Rattle.std.proofs.lemmas.List.{get_or_append_left}
use Rattle.std.proofs.lemmas.List.Elements.{All-push, All-weaker}
use Rattle.std.proofs.Math.Seq.{get_or-append_seam}
use Rattle.std.proofs.lemmas.Bool.{cases_lt}

-- a greater number at the end
rises_at : (xs : List ℕ) (y : ℕ) → IsStrictlyIncreasing xs → All (λ n. n < y) xs → (k : ℕ) → k + 1 < length (xs ++ y ∷ []) → (k + 1 < length xs) ⊎ (length xs ≤ k + 1) → get_or (xs ++ y ∷ []) k 0 < get_or (xs ++ y ∷ []) (k + 1) 0
rises_at xs y rises below k lt (inl more) =
    rw (get_or_append_left xs (y ∷ []) 0 k (omega arith)) rw (get_or_append_left xs (y ∷ []) 0 (k + 1) more) (rises k more)
rises_at xs y rises below k lt (inr last) =
    let count : length (xs ++ y ∷ []) ≡ length xs + 1 = grind (arith, length-append) in
    let seam : k + 1 ≡ length xs = omega arith in
    rw (get_or_append_left xs (y ∷ []) 0 k (omega arith)) rw seam rw (get_or-append_seam xs y [] 0) (below k 0 (omega arith))

pub rises_push : (xs : List ℕ) (y : ℕ) → IsStrictlyIncreasing xs → All (λ n. n < y) xs → IsStrictlyIncreasing (xs ++ y ∷ [])
rises_push xs y rises below k lt = rises_at xs y rises below k lt (cases_lt (k + 1) (length xs))

pub below_more : (xs : List ℕ) (y : ℕ) → All (λ n. n < y) xs → All (λ n. n < y + 1) xs
below_more xs y below = All-weaker (λ n. n < y) (λ n. n < y + 1) (λ n lt. omega arith) xs below

pub below_push : (xs : List ℕ) (y : ℕ) → All (λ n. n < y) xs → All (λ n. n < y + 1) (xs ++ y ∷ [])
below_push xs y below = All-push (λ n. n < y + 1) xs y (below_more xs y below) (omega arith)
