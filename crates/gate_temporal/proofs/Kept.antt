-- Rows while a circuit grows.
use Rattle.std.proofs.Common.{◌≡◌, ℕ, zero, suc, ◌+◌, ◌<◌, Bool, List, [], ◌∷◌, ◌++◌, length, All, Some, refl, sym, ◌∙◌, ap, subst, arith, slice_get, get_or, length-append, Contains, inl, inr, Result, Ok, Err, IfOk}
use Rattle.std.proofs.lemmas.Bool.{cases_lt}
use Rattle.std.proofs.lemmas.List.{get_or_default}
use Rattle.std.proofs.lemmas.Option.{slice_get_within, get_or_from_slice_get}
use Rattle.std.proofs.lemmas.List.Elements.{All-append}
use Rattle.gate_trait.specs.declared.node.Node.{Node}
use Rattle.gate_trait.specs.Built.{Keeps, AllIn}
use Rattle.gate_temporal.specs.Rows.{row_value}

pub keeps_refl : {S : Type 0} (belongs : S → Node → Type 0) (value : S → (ℕ → Bool) → Node → Bool) (f : S) → Keeps belongs value f f
keeps_refl belongs value f = record { belong = λ n t. t; values = λ n t x. refl }

pub keeps_trans : {S : Type 0} (belongs : S → Node → Type 0) (value : S → (ℕ → Bool) → Node → Bool) (f g h : S) → Keeps belongs value f g → Keeps belongs value g h → Keeps belongs value f h
keeps_trans belongs value f g h a b = record {
  belong = λ n t. b.belong n (a.belong n t);
  values = λ n t x. b.values n (a.belong n t) x ∙ a.values n t x;
}

pub tail_all : (P : Node → Type 0) (n : Node) (row : List Node) → AllIn P (n ∷ row) → AllIn P row
tail_all P n row all = λ k d lt. all (suc k) d (omega arith)

pub all_to : (P Q : Node → Type 0) → ((n : Node) → P n → Q n) → (row : List Node) → AllIn P row → AllIn Q row
all_to P Q f row all = λ k d lt. f _ (all k d lt)

pub all_kept : {S : Type 0} (belongs : S → Node → Type 0) (value : S → (ℕ → Bool) → Node → Bool) (g h : S) → Keeps belongs value g h → (row : List Node) → AllIn (belongs g) row → AllIn (belongs h) row
all_kept belongs value g h keeps row all = all_to (belongs g) (belongs h) keeps.belong row all

pub row_kept : {S : Type 0} (belongs : S → Node → Type 0) (value : S → (ℕ → Bool) → Node → Bool) (g h : S) → Keeps belongs value g h → (row : List Node) → AllIn (belongs g) row → (x : ℕ → Bool) (k : ℕ) → row_value (value h x) row k ≡ row_value (value g x) row k
row_kept belongs value g h keeps [] all x k = refl
row_kept belongs value g h keeps (n ∷ row) all x zero = keeps.values n (all zero n (omega arith)) x
row_kept belongs value g h keeps (n ∷ row) all x (suc k) = row_kept belongs value g h keeps row (tail_all (belongs g) n row all) x k

pub value_get : (value : Node → Bool) (row : List Node) (k : ℕ) (n : Node) → slice_get row k ≡ Some n → row_value value row k ≡ value n
value_get value [] k n e = cc
value_get value (m ∷ row) zero n e = cc
value_get value (m ∷ row) (suc k) n e = value_get value row k n e

pub all_get : (P : Node → Type 0) (row : List Node) (k : ℕ) (n : Node) → AllIn P row → slice_get row k ≡ Some n → P n
all_get P [] k n all e = cc
all_get P (m ∷ row) zero n all e = let is : m ≡ n = cc in subst P is (all zero m (omega arith))
all_get P (m ∷ row) (suc k) n all e = all_get P row k n (tail_all P m row all) e

pub push_last : (value : Node → Bool) (row : List Node) (n : Node) (k : ℕ) → k ≡ length row → row_value value (row ++ n ∷ []) k ≡ value n
push_last value [] n zero e = refl
push_last value [] n (suc k) e = absurd (omega (arith, e))
push_last value (m ∷ row) n zero e = absurd (omega (arith, e))
push_last value (m ∷ row) n (suc k) e = push_last value row n k (omega (arith, e))

pub push_before : (value : Node → Bool) (row : List Node) (n : Node) (k : ℕ) → k < length row → row_value value (row ++ n ∷ []) k ≡ row_value value row k
push_before value [] n k lt = absurd (omega arith)
push_before value (m ∷ row) n zero lt = refl
push_before value (m ∷ row) n (suc k) lt = push_before value row n k (omega arith)

single_all : (P : Node → Type 0) (n : Node) → P n → All P (n ∷ [])
single_all P n there zero d lt = there
single_all P n there (suc k) d lt = absurd (omega arith)

pub all_push : (P : Node → Type 0) (row : List Node) (n : Node) → AllIn P row → P n → AllIn P (row ++ n ∷ [])
all_push P row n all here = All-append P row (n ∷ []) all (single_all P n here)

pub length_push : (row : List Node) (n : Node) → length (row ++ n ∷ []) ≡ length row + 1
length_push row n = length-append row (n ∷ [])

-- one more node
pub values_push : (value : Node → Bool) (row new : List Node) (n : Node) (k : ℕ) (m : ℕ → Bool) → new ≡ row ++ n ∷ [] → length row ≡ k → ((i : ℕ) → i < k → row_value value row i ≡ m i) → value n ≡ m k → (i : ℕ) → i < k + 1 → row_value value new i ≡ m i
values_push value row new n k m is long before here i lt =
    elim (cases_lt i k) [
      | inl less ↦ ap (λ (s : List Node). row_value value s i) is ∙ push_before value row n i (omega (arith, long)) ∙ before i less
      | inr more ↦
          let e : i ≡ k = omega arith in
          ap (λ (s : List Node). row_value value s i) is ∙ push_last value row n i (omega (arith, long)) ∙ here ∙ ap m (sym e)
    ]

-- and the circuit has grown
pub values_more : {S : Type 0} (belongs : S → Node → Type 0) (value : S → (ℕ → Bool) → Node → Bool) (g h : S) → Keeps belongs value g h → (row new : List Node) (n : Node) (k : ℕ) → new ≡ row ++ n ∷ [] → AllIn (belongs g) row → length row ≡ k → (x : ℕ → Bool) (m : ℕ → Bool) → ((i : ℕ) → i < k → row_value (value g x) row i ≡ m i) → value h x n ≡ m k → (i : ℕ) → i < k + 1 → row_value (value h x) new i ≡ m i
values_more belongs value g h keeps row new n k is all long x m before here i lt =
    values_push (value h x) row new n k m is long (λ j l. row_kept belongs value g h keeps row all x j ∙ before j l) here i lt

pub there_more : {S : Type 0} (belongs : S → Node → Type 0) (value : S → (ℕ → Bool) → Node → Bool) (g h : S) → Keeps belongs value g h → (row new : List Node) (n : Node) → new ≡ row ++ n ∷ [] → AllIn (belongs g) row → belongs h n → AllIn (belongs h) new
there_more belongs value g h keeps row new n is all here =
    subst (λ (s : List Node). AllIn (belongs h) s) (sym is) (all_push (belongs h) row n (all_kept belongs value g h keeps row all) here)

pub long_more : (row new : List Node) (n : Node) (k : ℕ) → new ≡ row ++ n ∷ [] → length row ≡ k → length new ≡ k + 1
long_more row new n k is long = ap length is ∙ length_push row n ∙ ap (λ (j : ℕ). j + 1) long

-- the value of a node of a row in a circuit that has grown since
pub here_value : {S : Type 0} (belongs : S → Node → Type 0) (value : S → (ℕ → Bool) → Node → Bool) (g h : S) → Keeps belongs value g h → (row : List Node) → AllIn (belongs g) row → (k : ℕ) (n : Node) → slice_get row k ≡ Some n → (x : ℕ → Bool) → value h x n ≡ row_value (value g x) row k
here_value belongs value g h keeps row all k n at x = keeps.values n (all_get (belongs g) row k n all at) x ∙ sym (value_get (value g x) row k n at)

pub here_belongs : {S : Type 0} (belongs : S → Node → Type 0) (value : S → (ℕ → Bool) → Node → Bool) (g h : S) → Keeps belongs value g h → (row : List Node) → AllIn (belongs g) row → (k : ℕ) (n : Node) → slice_get row k ≡ Some n → belongs h n
here_belongs belongs value g h keeps row all k n at = keeps.belong n (all_get (belongs g) row k n all at)

pub contains_get : (row : List Node) (k : ℕ) (n : Node) → slice_get row k ≡ Some n → Contains row n
contains_get row k n at = (k, slice_get_within row k n at, get_or_from_slice_get row k n n at)

pub all_self : (row : List Node) → All (λ n. Contains row n) row
all_self row k d lt = (k, lt, get_or_default row k (get_or row k d) d lt)

-- nodes that all come from a row belong where those of the row do
pub all_from : (P : Node → Type 0) (row new : List Node) → AllIn P row → All (λ n. Contains row n) new → AllIn P new
all_from P row new all from k d lt =
    let (j, l, e) = from k d lt in
    subst P e (all j _ l)

pub if_ok_to : {X E : Type 0} (P Q : X → Type 0) → ((x : X) → P x → Q x) → (r : Result X E) → IfOk r P → IfOk r Q
if_ok_to P Q f (Ok x) h = f x h
if_ok_to P Q f (Err e) h = tt
