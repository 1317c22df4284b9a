-- Lemmas on the values of rows that grow.
use Rattle.std.proofs.Common.{◌≡◌, ◌<◌, ◌+◌, ℕ, zero, suc, Bool, List, [], ◌∷◌, ◌++◌, length, refl, sym, ap, ◌∙◌, arith, inl, inr, length-append}
use Rattle.std.proofs.lemmas.Bool.{cases_lt}
use Rattle.gate_trait.specs.declared.node.Node.{Node}
use Rattle.gate_trait.specs.Built.{Keeps, AllIn}
use Rattle.gate_trait.proofs.KeptLemmas.{all_tail}
use Rattle.gate_temporal.specs.Rows.{row_value}

pub row_kept : {S : Type 0} (belongs : S → Node → Type 0) (value : S → (ℕ → Bool) → Node → Bool) (g h : S) → Keeps belongs value g h → (row : List Node) → AllIn (belongs g) row → (x : ℕ → Bool) (k : ℕ) → row_value (value h x) row k ≡ row_value (value g x) row k
row_kept belongs value g h keeps [] all x k = refl
row_kept belongs value g h keeps (n ∷ row) all x zero = keeps.values n (all zero n (omega arith)) x
row_kept belongs value g h keeps (n ∷ row) all x (suc k) = row_kept belongs value g h keeps row (all_tail (belongs g) n row all) x k

pub push_last : (value : Node → Bool) (row : List Node) (n : Node) (k : ℕ) → k ≡ length row → row_value value (row ++ n ∷ []) k ≡ value n
push_last value [] n zero e = refl
push_last value [] n (suc k) e = absurd (omega arith)
push_last value (m ∷ row) n zero e = absurd (omega arith)
push_last value (m ∷ row) n (suc k) e = push_last value row n k (omega arith)

pub push_before : (value : Node → Bool) (row : List Node) (n : Node) (k : ℕ) → k < length row → row_value value (row ++ n ∷ []) k ≡ row_value value row k
push_before value [] n k lt = absurd (omega arith)
push_before value (m ∷ row) n zero lt = refl
push_before value (m ∷ row) n (suc k) lt = push_before value row n k (omega arith)

pub long_more : (row new : List Node) (n : Node) (k : ℕ) → new ≡ row ++ n ∷ [] → length row ≡ k → length new ≡ k + 1
long_more row new n k is long = ap (λ (r : List Node). length r) is ∙ length-append row (n ∷ []) ∙ ap (λ (j : ℕ). j + 1) long

pub values_push : (value : Node → Bool) (row new : List Node) (n : Node) (k : ℕ) (m : ℕ → Bool) → new ≡ row ++ n ∷ [] → length row ≡ k → ((i : ℕ) → i < k → row_value value row i ≡ m i) → value n ≡ m k → (i : ℕ) → i < k + 1 → row_value value new i ≡ m i
values_push value row new n k m is long old here i lt = ap (λ (r : List Node). row_value value r i) is ∙ elim (cases_lt i k) [
  | inl less ↦ push_before value row n i (omega (arith, less, long)) ∙ old i less
  | inr ge ↦ (let same : i ≡ k = omega (arith, lt, ge) in push_last value row n i (same ∙ sym long) ∙ here ∙ ap m (sym same))
]
