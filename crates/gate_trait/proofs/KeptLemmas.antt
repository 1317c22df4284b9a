-- Lemmas on what stays true while a circuit grows, for the crates that build on any circuit.
use Rattle.std.specs.Prelude.{◌≡◌, ℕ, zero, suc, ◌+◌, Bool, List, [], ◌∷◌, ◌++◌, length, map, Some, slice_get, Result, Ok, Err, IfOk, refl}
use Rattle.std.proofs.Common.{sym, ◌∙◌, ap, subst, arith, length-append}
use Rattle.std.proofs.lemmas.List.Elements.{All-append}
use Rattle.gate_trait.specs.declared.node.Node.{Node}
use Rattle.gate_trait.specs.Built.{Keeps, AllIn}

-- ---- lists of nodes

pub all_head : (P : Node → Type 0) (n : Node) (row : List Node) → AllIn P (n ∷ row) → P n
all_head P n row all = all zero n (omega arith)

pub all_tail : (P : Node → Type 0) (n : Node) (row : List Node) → AllIn P (n ∷ row) → AllIn P row
all_tail P n row all = λ k d lt. all (suc k) d (omega arith)

pub all_none : (P : Node → Type 0) → AllIn P []
all_none P = λ k d lt. absurd (omega arith)

pub all_one : (P : Node → Type 0) (n : Node) → P n → AllIn P (n ∷ [])
all_one P n here zero d lt = here
all_one P n here (suc k) d lt = absurd (omega arith)

pub all_push : (P : Node → Type 0) (row : List Node) (n : Node) → AllIn P row → P n → AllIn P (row ++ n ∷ [])
all_push P row n all here = All-append P row (n ∷ []) all (all_one P n here)

pub all_to : (P Q : Node → Type 0) → ((n : Node) → P n → Q n) → (row : List Node) → AllIn P row → AllIn Q row
all_to P Q f row all = λ k d lt. f _ (all k d lt)

-- the node at a place is one of those that all have the property
pub all_get : (P : Node → Type 0) (row : List Node) (k : ℕ) (n : Node) → AllIn P row → slice_get row k ≡ Some n → P n
all_get P [] k n all e = cc
all_get P (m ∷ row) zero n all e = let is : m ≡ n = cc in subst P is (all zero m (omega arith))
all_get P (m ∷ row) (suc k) n all e = all_get P row k n (all_tail P m row all) e

-- the same by equal lists
pub all_same : (P : Node → Type 0) (row new : List Node) → new ≡ row → AllIn P row → AllIn P new
all_same P row new is all = subst (λ (s : List Node). AllIn P s) (sym is) all

pub length_push : (row : List Node) (n : Node) → length (row ++ n ∷ []) ≡ length row + 1
length_push row n = length-append row (n ∷ [])

pub map_push : (value : Node → Bool) (row : List Node) (n : Node) → map value (row ++ n ∷ []) ≡ map value row ++ value n ∷ []
map_push value [] n = refl
map_push value (m ∷ row) n = ap (λ (bs : List Bool). value m ∷ bs) (map_push value row n)

-- ---- results

pub if_ok_to : {X E : Type 0} (P Q : X → Type 0) → ((x : X) → P x → Q x) → (r : Result X E) → IfOk r P → IfOk r Q
if_ok_to P Q f (Ok x) h = f x h
if_ok_to P Q f (Err e) h = tt

-- ---- circuits that grow

module _ {S : Type 0} (belongs : S → Node → Type 0) (value : S → (ℕ → Bool) → Node → Bool) where
  pub keeps_refl : (f : S) → Keeps belongs value f f
  keeps_refl f = record { belong = λ n t. t; values = λ n t x. refl }

  pub keeps_same : (old new : S) → new ≡ old → Keeps belongs value old new
  keeps_same old new e = record {
    belong = λ n h. subst (λ (s : S). belongs s n) (sym e) h;
    values = λ n h x. ap (λ (s : S). value s x n) e;
  }

  pub keeps_trans : (f g h : S) → Keeps belongs value f g → Keeps belongs value g h → Keeps belongs value f h
  keeps_trans f g h a b = record {
    belong = λ n t. b.belong n (a.belong n t);
    values = λ n t x. b.values n (a.belong n t) x ∙ a.values n t x;
  }

  pub all_kept : (g h : S) → Keeps belongs value g h → (row : List Node) → AllIn (belongs g) row → AllIn (belongs h) row
  all_kept g h keeps row all = all_to (belongs g) (belongs h) keeps.belong row all

  -- one more node of the circuit that has grown
  pub all_more : (g h : S) → Keeps belongs value g h → (row new : List Node) (n : Node) → new ≡ row ++ n ∷ [] → AllIn (belongs g) row → belongs h n → AllIn (belongs h) new
  all_more g h keeps row new n is all here =
      all_same (belongs h) (row ++ n ∷ []) new is (all_push (belongs h) row n (all_kept g h keeps row all) here)

  -- the values of nodes that belong
  pub values_kept : (g h : S) → Keeps belongs value g h → (row : List Node) → AllIn (belongs g) row → (x : ℕ → Bool) → map (value h x) row ≡ map (value g x) row
  values_kept g h keeps [] all x = refl
  values_kept g h keeps (n ∷ row) all x =
      ap (λ (b : Bool). b ∷ map (value h x) row) (keeps.values n (all_head (belongs g) n row all) x)
      ∙ ap (λ (bs : List Bool). value g x n ∷ bs) (values_kept g h keeps row (all_tail (belongs g) n row all) x)

  pub here_belongs : (g h : S) → Keeps belongs value g h → (row : List Node) → AllIn (belongs g) row → (k : ℕ) (n : Node) → slice_get row k ≡ Some n → belongs h n
  here_belongs g h keeps row all k n at = keeps.belong n (all_get (belongs g) row k n all at)
