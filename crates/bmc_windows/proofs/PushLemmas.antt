-- Lemmas on what stands at a place when one more item is added at the end, for the crates that
-- build lists.
use Rattle.std.proofs.Common.{◌≡◌, ◌⊎◌, ◌<◌, ℕ, zero, suc, List, [], ◌∷◌, ◌++◌, length, slice_get, Some, refl, sym, ap, ◌∙◌, subst, arith, inl, inr}

pub push_kept : {X : Type 0} (xs : List X) (y : X) (k : ℕ) (v : X) → slice_get xs k ≡ Some v → slice_get (xs ++ y ∷ []) k ≡ Some v
push_kept [] y k v e = absurd (cc)
push_kept (x ∷ xs) y zero v e = e
push_kept (x ∷ xs) y (suc k) v e = push_kept xs y k v e

pub push_last : {X : Type 0} (xs : List X) (y : X) → slice_get (xs ++ y ∷ []) (length xs) ≡ Some y
push_last [] y = refl
push_last (x ∷ xs) y = push_last xs y

pub push_at : {X : Type 0} (xs : List X) (y : X) (k : ℕ) → k ≡ length xs → slice_get (xs ++ y ∷ []) k ≡ Some y
push_at xs y k e = ap (λ (j : ℕ). slice_get (xs ++ y ∷ []) j) e ∙ push_last xs y

pub push_cases : {X : Type 0} (xs : List X) (y : X) (k : ℕ) (v : X) → slice_get (xs ++ y ∷ []) k ≡ Some v → (slice_get xs k ≡ Some v) ⊎ ((k ≡ length xs) × (y ≡ v))
push_cases [] y zero v e = let same : y ≡ v = cc in inr (refl, same)
push_cases [] y (suc k) v e = absurd (cc)
push_cases (x ∷ xs) y zero v e = inl e
push_cases (x ∷ xs) y (suc k) v e = elim (push_cases xs y k v e) [
  | inl h ↦ inl h
  | inr h ↦ inr (ap suc h.0, h.1)
]
