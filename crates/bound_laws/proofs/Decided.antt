-- What is decided: it holds, or it doesn't.
use Rattle.std.proofs.Common.{◌≡◌, ◌⊎◌, inl, inr, ℕ, zero, suc, ◌<◌, Bool, true, false, List, [], ◌∷◌, Contains, Option, Some, None, refl, sym, subst, arith}
use Rattle.std.proofs.lemmas.Bool.{cases_lt, cases_eq}
use Rattle.std.proofs.lemmas.Option.{none-some, same_Some}
use Rattle.core_tuples.proofs.OrderLemmas.{cons_cases, cons_here, cons_later, no_members}

abbrev pub Decided : Type 0 → Type 0
Decided P = P ⊎ (P → ⊥)

-- the answer
abbrev pub told : (P : Type 0) → Decided P → Bool
told P (inl h) = true
told P (inr h) = false

pub told_true : (P : Type 0) (d : Decided P) → P → told P d ≡ true
told_true P (inl h) held = refl
told_true P (inr off) held = absurd (off held)

pub told_false : (P : Type 0) (d : Decided P) → (P → ⊥) → told P d ≡ false
told_false P (inl h) off = absurd (off h)
told_false P (inr h) off = refl

pub told_same : (P Q : Type 0) (d : Decided P) (e : Decided Q) → (P → Q) → (Q → P) → told P d ≡ told Q e
told_same P Q (inl h) e there back = sym (told_true Q e (there h))
told_same P Q (inr off) e there back = sym (told_false Q e (λ h. off (back h)))

-- ---- what is decided with others

pub decided_as : (P Q : Type 0) → (P → Q) → (Q → P) → Decided P → Decided Q
decided_as P Q there back (inl h) = inl (there h)
decided_as P Q there back (inr off) = inr (λ h. off (back h))

pub decided_both : (P Q : Type 0) → Decided P → Decided Q → Decided (P × Q)
decided_both P Q (inl h) (inl k) = inl (h, k)
decided_both P Q (inl h) (inr off) = inr (λ both. off both.1)
decided_both P Q (inr off) d = inr (λ both. off both.0)

-- of what an option gives
abbrev pub Gives : (X : Type 0) → Option X → (X → Type 0) → Type 0
Gives X o P = (x : X) × (o ≡ Some x) × P x

pub decided_given : (X : Type 0) (o : Option X) (P : X → Type 0) → ((x : X) → Decided (P x)) → Decided (Gives X o P)
decided_given X None P each = inr (λ (x, e, h). none-some x e)
decided_given X (Some y) P each = by_one (each y)
  where
    by_one : Decided (P y) → Decided (Gives X (Some y) P)
    by_one (inl h) = inl (y, refl, h)
    by_one (inr off) = inr (λ (x, e, h). off (subst P (sym (same_Some y x e)) h))

-- of some number below another
abbrev pub SomeBelow : ℕ → (ℕ → Type 0) → Type 0
SomeBelow n P = (k : ℕ) × (k < n) × P k

pub decided_below : (P : ℕ → Type 0) (n : ℕ) → ((k : ℕ) → Decided (P k)) → Decided (SomeBelow n P)
decided_below P zero each = inr (λ (k, lt, h). absurd (omega (arith, lt)))
decided_below P (suc n) each = by_last (each n) (decided_below P n each)
  where
    at_last : (P n → ⊥) → (SomeBelow n P → ⊥) → SomeBelow (suc n) P → ⊥
    at_last off none (k, lt, h) = elim (cases_lt k n) [
      | inl less ↦ none (k, less, h)
      | inr more ↦ let is : k ≡ n = omega (arith, lt, more) in off (subst P is h)
    ]

    by_last : Decided (P n) → Decided (SomeBelow n P) → Decided (SomeBelow (suc n) P)
    by_last (inl h) d = inl (n, omega arith, h)
    by_last (inr off) (inl (k, lt, h)) = inl (k, omega (arith, lt), h)
    by_last (inr off) (inr none) = inr (at_last off none)

-- ---- tuples

same_first : (a b : ℕ) (s t : List ℕ) → a ∷ s ≡ b ∷ t → a ≡ b
same_first a b s t e = cc

same_rest : (a b : ℕ) (s t : List ℕ) → a ∷ s ≡ b ∷ t → s ≡ t
same_rest a b s t e = cc

not_empty : (a : ℕ) (s : List ℕ) → a ∷ s ≡ [] → ⊥
not_empty a s e = cc

pub joined : (a b : ℕ) (s t : List ℕ) → a ≡ b → s ≡ t → a ∷ s ≡ b ∷ t
joined a b s t e f = cc

pub decided_tuple : (s t : List ℕ) → Decided (s ≡ t)
decided_tuple [] [] = inl refl
decided_tuple [] (b ∷ t) = inr (λ e. not_empty b t (sym e))
decided_tuple (a ∷ s) [] = inr (λ e. not_empty a s e)
decided_tuple (a ∷ s) (b ∷ t) = by_both (cases_eq a b) (decided_tuple s t)
  where
    by_both : Decided (a ≡ b) → Decided (s ≡ t) → Decided (a ∷ s ≡ b ∷ t)
    by_both (inl first) (inl rest) = inl (joined a b s t first rest)
    by_both (inl first) (inr off) = inr (λ e. off (same_rest a b s t e))
    by_both (inr off) d = inr (λ e. off (same_first a b s t e))

pub decided_among : (ts : List (List ℕ)) (t : List ℕ) → Decided (Contains ts t)
decided_among [] t = inr (no_members t)
decided_among (u ∷ ts) t = by_first (decided_tuple t u) (decided_among ts t)
  where
    neither : (t ≡ u → ⊥) → (Contains ts t → ⊥) → Contains (u ∷ ts) t → ⊥
    neither off none h = elim (cons_cases u ts t h) [ inl here ↦ off here | inr later ↦ none later ]

    by_first : Decided (t ≡ u) → Decided (Contains ts t) → Decided (Contains (u ∷ ts) t)
    by_first (inl here) d = inl (cons_here u ts t here)
    by_first (inr off) (inl later) = inl (cons_later u ts t later)
    by_first (inr off) (inr none) = inr (neither off none)
