-- Facts at the places of a list, and at positions.
use Rattle.std.proofs.Common.{◌≡◌, ◌↔◌, ℕ, zero, suc, ◌+◌, ◌<◌, ◌≤◌, List, [], ◌∷◌, refl, subst, inl, inr, arith, length, slice_get, Some, None, true, false, IsTrue}
use Rattle.std.proofs.lemmas.Bool.{cases_lt}
use Rattle.eval_tree.proofs.FoundLemmas.{true_holds, false_fails}

got_none : {X : Type 0} (xs : List X) (k : ℕ) → length xs ≤ k → slice_get xs k ≡ None
got_none [] k over = refl
got_none (x ∷ xs) zero over = absurd (omega arith)
got_none (x ∷ xs) (suc k) over = got_none xs k (omega arith)

pub got_below : {X : Type 0} (xs : List X) (k : ℕ) (x : X) → slice_get xs k ≡ Some x → k < length xs
got_below xs k x at = elim (cases_lt k (length xs)) [ inl lt ↦ lt | inr over ↦ let none = got_none xs k over in absurd cc ]

-- what holds of each item of a list
module _ {X : Type 0} (xs : List X) (P : ℕ → X → Type 0) where
  abbrev pub Before : ℕ → Type 0
  Before k = (n : ℕ) → n < k → (x : X) → slice_get xs n ≡ Some x → P n x

  pub before_none : Before 0
  before_none n lt x at = absurd (omega arith)

  pub before_more : (k : ℕ) (x : X) → slice_get xs k ≡ Some x → Before k → P k x → Before (k + 1)
  before_more k x at h here n lt y there = elim (cases_lt n k) [
    | inl low ↦ h n low y there
    | inr high ↦
        let e : k ≡ n = omega arith in
        let at' : slice_get xs n ≡ Some x = subst (λ (z : ℕ). slice_get xs z ≡ Some x) e at in
        let same : x ≡ y = cc in
        subst (λ (z : X). P n z) same (subst (λ (z : ℕ). P z x) e here)
  ]

  pub before_fails : (k : ℕ) (x : X) → slice_get xs k ≡ Some x → ¬ P k x → IsTrue false ↔ ((n : ℕ) (x : X) → slice_get xs n ≡ Some x → P n x)
  before_fails k x at no' = false_fails (λ f. no' (f k x at))

  pub before_all : (k : ℕ) → length xs ≤ k → Before k → IsTrue true ↔ ((n : ℕ) (x : X) → slice_get xs n ≡ Some x → P n x)
  before_all k over h = true_holds (λ n x at. h n (let lt = got_below xs n x at in omega arith) x at)

-- what holds at each position before one
module _ (P : ℕ → Type 0) where
  pub none_yet : (i : ℕ) → i < 0 → P i
  none_yet i lt = absurd (omega arith)

  pub one_more : (k : ℕ) → ((i : ℕ) → i < k → P i) → P k → (i : ℕ) → i < k + 1 → P i
  one_more k h here i lt = elim (cases_lt i k) [ inl low ↦ h i low | inr high ↦ let e : k ≡ i = omega arith in subst P e here ]
