-- Rows of nodes, and stacks of rows.
use Rattle.std.proofs.Common.{◌≡◌, ◌↔◌, ◌⊎◌, ◌<◌, ◌≤◌, ◌+◌, ◌-◌, ℕ, zero, suc, Bool, true, false, ◌&&◌, not, List, [], ◌∷◌, ◌++◌, length, replicate, take, get_or, slice_get, Some, Option, None, refl, sym, ap, ◌∙◌, subst, arith, inl, inr, length-append}
use Rattle.std.proofs.lemmas.Bool.{cases_lt}
use Rattle.std.proofs.lemmas.Option.{slice_get_within, get_or_from_slice_get}
use Rattle.gate_trait.specs.declared.node.Node.{Node}
use Rattle.gate_trait.specs.Built.{Keeps, AllIn}
use Rattle.gate_temporal.specs.Rows.{row_value}
use Rattle.bmc_stack.specs.declared.store.Store.{Store}
use Rattle.bmc_stack.specs.Rows.{IsConstant, IsSpread, IsPart, IsNegated, HasTop, AreBeside, Grows}

-- ---- stacks

not_empty : {X : Type 0} (ys : List X) (y : X) → [] ≡ ys ++ y ∷ [] → ⊥
not_empty [] y e = cc
not_empty (z ∷ ys) y e = cc

pub unpush : {X : Type 0} (xs ys : List X) (x y : X) → xs ++ x ∷ [] ≡ ys ++ y ∷ [] → (xs ≡ ys) × (x ≡ y)
unpush [] [] x y e = let same : x ≡ y = cc in (refl, same)
unpush [] (z ∷ ys) x y e = let same : [] ≡ ys ++ y ∷ [] = cc in absurd (not_empty ys y same)
unpush (w ∷ xs) [] x y e = let same : [] ≡ xs ++ x ∷ [] = cc in absurd (not_empty xs x same)
unpush (w ∷ xs) (z ∷ ys) x y e =
    let rest : xs ++ x ∷ [] ≡ ys ++ y ∷ [] = cc in
    let head : w ≡ z = cc in
    let r = unpush xs ys x y rest in
    (ap (λ v. v ∷ xs) head ∙ ap (λ vs. z ∷ vs) r.0, r.1)

pub two_rows : {X : Type 0} (rest : List X) (f g : X) → rest ++ f ∷ g ∷ [] ≡ (rest ++ f ∷ []) ++ g ∷ []
two_rows [] f g = refl
two_rows (r ∷ rest) f g = ap (λ rs. r ∷ rs) (two_rows rest f g)

-- ---- values at places

pub value_at : (value : Node → Bool) (row : List Node) (k : ℕ) (n : Node) → slice_get row k ≡ Some n → row_value value row k ≡ value n
value_at value [] k n e = absurd (cc)
value_at value (m ∷ row) zero n e = let same : m ≡ n = cc in ap value same
value_at value (m ∷ row) (suc k) n e = value_at value row k n e

pub value_past : (value : Node → Bool) (row : List Node) (k : ℕ) → length row ≤ k → row_value value row k ≡ false
value_past value [] k le = refl
value_past value (m ∷ row) zero le = absurd (omega arith)
value_past value (m ∷ row) (suc k) le = value_past value row k (omega arith)

pub value_same : (value : Node → Bool) (count : ℕ) (n : Node) (i : ℕ) → i < count → row_value value (replicate count n) i ≡ value n
value_same value zero n i lt = absurd (omega arith)
value_same value (suc count) n zero lt = refl
value_same value (suc count) n (suc i) lt = value_same value count n i (omega arith)

pub value_push_last : (value : Node → Bool) (row : List Node) (n : Node) (k : ℕ) → k ≡ length row → row_value value (row ++ n ∷ []) k ≡ value n
value_push_last value [] n zero e = refl
value_push_last value [] n (suc k) e = absurd (omega arith)
value_push_last value (m ∷ row) n zero e = absurd (omega arith)
value_push_last value (m ∷ row) n (suc k) e = value_push_last value row n k (omega arith)

pub value_push_before : (value : Node → Bool) (row : List Node) (n : Node) (k : ℕ) → k < length row → row_value value (row ++ n ∷ []) k ≡ row_value value row k
value_push_before value [] n k lt = absurd (omega arith)
value_push_before value (m ∷ row) n zero lt = refl
value_push_before value (m ∷ row) n (suc k) lt = value_push_before value row n k (omega arith)

pub value_append_before : (value : Node → Bool) (row more : List Node) (k : ℕ) → k < length row → row_value value (row ++ more) k ≡ row_value value row k
value_append_before value [] more k lt = absurd (omega arith)
value_append_before value (m ∷ row) more zero lt = refl
value_append_before value (m ∷ row) more (suc k) lt = value_append_before value row more k (omega arith)

pub value_append_after : (value : Node → Bool) (row more : List Node) (k : ℕ) → row_value value (row ++ more) (length row + k) ≡ row_value value more k
value_append_after value [] more k = ap (λ (j : ℕ). row_value value more j) (let e : 0 + k ≡ k = omega arith in e)
value_append_after value (m ∷ row) more k =
    ap (λ (j : ℕ). row_value value (m ∷ (row ++ more)) j) (let e : length (m ∷ row) + k ≡ suc (length row + k) = omega arith in e)
    ∙ value_append_after value row more k

pub row_kept : {S : Type 0} (belongs : S → Node → Type 0) (value : S → (ℕ → Bool) → Node → Bool) (g h : S) → Keeps belongs value g h → (row : List Node) → AllIn (belongs g) row → (x : ℕ → Bool) (k : ℕ) → row_value (value h x) row k ≡ row_value (value g x) row k
row_kept belongs value g h keeps [] all x k = refl
row_kept belongs value g h keeps (n ∷ row) all x zero = keeps.values n (all zero n (omega arith)) x
row_kept belongs value g h keeps (n ∷ row) all x (suc k) = row_kept belongs value g h keeps row (λ j d lt. all (suc j) d (omega arith)) x k

-- ---- loops

pub constant_is : (value : (ℕ → Bool) → Node → Bool) (count : ℕ) (b : Bool) (n : Node) (row : List Node) → row ≡ replicate count n → length row ≡ count → ((x : ℕ → Bool) → value x n ≡ b) → IsConstant value count b row
constant_is value count b n row e long h = record {
  long = long;
  values = λ x i lt. ap (λ (r : List Node). row_value (value x) r i) e ∙ value_same (value x) count n i lt ∙ h x;
}

-- the values at the places so far
pub record SpreadTo (value : (ℕ → Bool) → Node → Bool) (f : List Node) (places : List ℕ) (row : List Node) (i : ℕ) : Type 0 where
  pub long : length row ≡ i
  pub values : (x : ℕ → Bool) (j k : ℕ) → j < i → slice_get places j ≡ Some k → row_value (value x) row j ≡ row_value (value x) f k

pub spread_none : (value : (ℕ → Bool) → Node → Bool) (f : List Node) (places : List ℕ) → SpreadTo value f places [] 0
spread_none value f places = record { long = refl; values = λ x j k lt. absurd (omega arith) }

pub spread_more : (value : (ℕ → Bool) → Node → Bool) (f : List Node) (places : List ℕ) (row new : List Node) (n : Node) (i p : ℕ) → SpreadTo value f places row i → p ≡ get_or places i p → ((x : ℕ → Bool) → value x n ≡ row_value (value x) f p) → new ≡ row ++ n ∷ [] → SpreadTo value f places new (i + 1)
spread_more value f places row new n i p h here found is = subst (λ (r : List Node). SpreadTo value f places r (i + 1)) (sym is) (record {
  long = length-append row (n ∷ []) ∙ ap (λ (k : ℕ). k + 1) h.long;
  values = λ x j k lt at. elim (cases_lt j i) [
    | inl less ↦ value_push_before (value x) row n j (let e = h.long in omega (arith, e, less)) ∙ h.values x j k less at
    | inr ge ↦ (let same : j ≡ i = omega (arith, lt, ge) in
        let place : p ≡ k = here ∙ ap (λ (q : ℕ). get_or places q p) (sym same) ∙ get_or_from_slice_get places j k p at in
        value_push_last (value x) row n j (same ∙ sym h.long) ∙ found x ∙ ap (λ (q : ℕ). row_value (value x) f q) place)
  ];
})

pub spread_all : (value : (ℕ → Bool) → Node → Bool) (f : List Node) (places : List ℕ) (row : List Node) (i : ℕ) → length places ≤ i → i ≤ length places → SpreadTo value f places row i → IsSpread value f places row
spread_all value f places row i over under h = record {
  long = (let e = h.long in omega (arith, e, over, under));
  values = λ x j k at. (let inside = slice_get_within places j k at in h.values x j k (omega (arith, inside, over)) at);
}

pub part_none : (value : (ℕ → Bool) → Node → Bool) (f : List Node) (from : ℕ) → IsPart value f from 0 []
part_none value f from = record { long = refl; values = λ x i lt. absurd (omega arith) }

pub part_more : (value : (ℕ → Bool) → Node → Bool) (f row new : List Node) (n : Node) (from i : ℕ) → IsPart value f from i row → ((x : ℕ → Bool) → value x n ≡ row_value (value x) f (from + i)) → new ≡ row ++ n ∷ [] → IsPart value f from (i + 1) new
part_more value f row new n from i h found is = subst (λ (r : List Node). IsPart value f from (i + 1) r) (sym is) (record {
  long = length-append row (n ∷ []) ∙ ap (λ (k : ℕ). k + 1) h.long;
  values = λ x j lt. elim (cases_lt j i) [
    | inl less ↦ value_push_before (value x) row n j (let e = h.long in omega (arith, e, less)) ∙ h.values x j less
    | inr ge ↦ (let same : j ≡ i = omega (arith, lt, ge) in
        value_push_last (value x) row n j (same ∙ sym h.long) ∙ found x ∙ ap (λ (q : ℕ). row_value (value x) f (from + q)) (sym same))
  ];
})

-- ---- steps

pub negated_is : (value : (ℕ → Bool) → Node → Bool) (f row new : List Node) → row ≡ f → length new ≡ length row → ((x : ℕ → Bool) (i : ℕ) → i < length row → row_value (value x) new i ≡ not (row_value (value x) row i)) → IsNegated value f new
negated_is value f row new e long h = subst (λ (r : List Node). IsNegated value r new) e (record { long = long; values = h })

-- the row on top of what is left
pub top_of : (rest rows new : List (List Node)) (row : List Node) (P : List Node → Type 0) → new ≡ rows ++ row ∷ [] → rows ≡ rest → P row → HasTop rest new P
top_of rest rows new row P e f p = (row, e ∙ ap (λ (rs : List (List Node)). rs ++ row ∷ []) f, p)

-- ---- stores

pub beside_refl : (s : Store) → AreBeside s s
beside_refl s = record { matrices = refl; integers = refl }

pub beside_trans : (a b c : Store) → AreBeside a b → AreBeside b c → AreBeside a c
beside_trans a b c f g = record { matrices = g.matrices ∙ f.matrices; integers = g.integers ∙ f.integers }

pub grows_refl : (s : Store) → Grows s s
grows_refl s = record { rows = refl; matrices = λ k m e. e; integers = λ k b e. e }

pub grows_trans : (a b c : Store) → Grows a b → Grows b c → Grows a c
grows_trans a b c f g = record { rows = g.rows ∙ f.rows; matrices = λ k m e. g.matrices k m (f.matrices k m e); integers = λ k b e. g.integers k b (f.integers k b e) }

pub no_nodes : (row : List Node) → length row ≡ 0 → row ≡ []
no_nodes [] e = refl
no_nodes (n ∷ row) e = absurd (omega arith)

pub length_same : {X : Type 0} (count : ℕ) (x : X) → length (replicate count x) ≡ count
length_same zero x = refl
length_same (suc count) x = ap suc (length_same count x)

take_next : {X : Type 0} (xs : List X) (k : ℕ) (x : X) → slice_get xs k ≡ Some x → take (suc k) xs ≡ take k xs ++ x ∷ []
take_next [] k x e = absurd (cc)
take_next (y ∷ xs) zero x e = let same : y ≡ x = cc in ap (λ z. z ∷ []) same
take_next (y ∷ xs) (suc k) x e = ap (λ zs. y ∷ zs) (take_next xs k x e)

pub take_push : {X : Type 0} (xs : List X) (k : ℕ) (x : X) → slice_get xs k ≡ Some x → take (k + 1) xs ≡ take k xs ++ x ∷ []
take_push xs k x e = (let n : k + 1 ≡ suc k = omega arith in ap (λ (j : ℕ). take j xs) n) ∙ take_next xs k x e
