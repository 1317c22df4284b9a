-- What loops over lists keep.
use Rattle.std.proofs.Common.{◌≡◌, ℕ, ◌+◌, ◌<◌, ◌≤◌, List, take, length, get_or, Some, slice_get, All, sym, subst, arith, inl, inr}
use Rattle.std.proofs.lemmas.Bool.{cases_lt}
use Rattle.std.proofs.lemmas.List.{take_all}
use Rattle.std.proofs.lemmas.List.Elements.{All-more}
use Rattle.std.proofs.lemmas.Option.{slice_get_within, slice_get-get_or}

pub all_more : {X : Type 0} (P : X → Type 0) (l : List X) (i : ℕ) (g : X) → i < length l → g ≡ get_or l i g → All P (take i l) → P g → All P (take (i + 1) l)
all_more P l i g lt item all here = All-more P l i g lt all (subst P item here)

pub all_whole : {X : Type 0} (P : X → Type 0) (l : List X) (i : ℕ) → length l ≤ i → All P (take i l) → All P l
all_whole {X = X} P l i le all = subst (λ (k : List X). All P k) (take_all i l le) all

-- what holds of each number below one, and of it, holds of each below the next
pub below_more : (P : ℕ → Type 0) (n : ℕ) → ((k : ℕ) → k < n → P k) → P n → (k : ℕ) → k < n + 1 → P k
below_more P n before here k lt = elim (cases_lt k n) [
  | inl sooner ↦ before k sooner
  | inr last ↦ let e : n ≡ k = omega arith in subst P e here
]

-- the same of the elements of a list
module _ {X : Type 0} (P : ℕ → X → Type 0) (l : List X) where
  pub front_more : (n : ℕ) → ((k : ℕ) (x : X) → k < n → slice_get l k ≡ Some x → P k x) → ((x : X) → slice_get l n ≡ Some x → P n x) → (k : ℕ) (x : X) → k < n + 1 → slice_get l k ≡ Some x → P k x
  front_more n before here k x lt at = elim (cases_lt k n) [
    | inl sooner ↦ before k x sooner at
    | inr last ↦ let e : n ≡ k = omega arith in subst (λ j. P j x) e (here x (subst (λ j. slice_get l j ≡ Some x) (sym e) at))
  ]

  pub front_all : (n : ℕ) → length l ≤ n → ((k : ℕ) (x : X) → k < n → slice_get l k ≡ Some x → P k x) → (k : ℕ) (x : X) → slice_get l k ≡ Some x → P k x
  front_all n high before k x at = before k x (let within = slice_get_within l k x at in omega arith) at

-- what holds of each element by its place holds of all
pub all_from_places : {X : Type 0} (P : X → Type 0) (l : List X) → ((k : ℕ) (x : X) → slice_get l k ≡ Some x → P x) → All P l
all_from_places P l each k d lt = each k (get_or l k d) (slice_get-get_or l k d lt)
