-- Sets and integers that are added to the store.
use Rattle.std.proofs.Common.{◌≡◌, ◌∷◌, [], ℕ, suc, List, length, take, slice_get, Some, ap, ◌∙◌, refl}
use Rattle.gate_trait.specs.declared.node.Node.{Node}
use Rattle.gate_matrix.specs.Matrices.{MatrixEntries}
use Rattle.bmc_stack.specs.declared.store.Store.{Store}
use Rattle.bmc_stack.specs.Rows.{Grows, AreBeside, IsPopped}
use Rattle.bmc_places.specs.Stores.{Extends, Stays}

pub extends_refl : (s : Store) → Extends s s
extends_refl s = record { matrices = λ k m at. at; integers = λ k b at. at }

pub extends_trans : (a b c : Store) → Extends a b → Extends b c → Extends a c
extends_trans a b c first second = record {
  matrices = λ k m at. second.matrices k m (first.matrices k m at);
  integers = λ k n at. second.integers k n (first.integers k n at);
}

pub grows_extends : (a b : Store) → Grows a b → Extends a b
grows_extends a b grows = record { matrices = grows.matrices; integers = grows.integers }

pub stays_extends : (a b : Store) → Stays a b → Extends a b
stays_extends a b stays = record {
  matrices = λ k m at. ap (λ (ms : List MatrixEntries). slice_get ms k) stays.matrices ∙ at;
  integers = λ k n at. ap (λ (ns : List (List Node)). slice_get ns k) stays.integers ∙ at;
}

pub stays_trans : (a b c : Store) → Stays a b → Stays b c → Stays a c
stays_trans a b c first second = record { matrices = second.matrices ∙ first.matrices; integers = second.integers ∙ first.integers }

-- a row is put on the stack and taken away again
pub popped_stays : (a b c : Store) (row : List Node) → AreBeside a b → IsPopped b c row → Stays a c
popped_stays a b c row beside popped = record { matrices = popped.matrices ∙ beside.matrices; integers = popped.integers ∙ beside.integers }

pub stays_refl : (s : Store) → Stays s s
stays_refl s = record { matrices = refl; integers = refl }

-- what has been added is cut away
front_same : {X : Type 0} (xs ys : List X) → ((k : ℕ) (x : X) → slice_get xs k ≡ Some x → slice_get ys k ≡ Some x) → take (length xs) ys ≡ xs
front_same [] ys same = refl
front_same (x ∷ xs) [] same = (let at = same 0 x refl in absurd cc)
front_same (x ∷ xs) (y ∷ ys) same =
    let at = same 0 x refl in
    let first : y ≡ x = cc in
    ap (λ z. z ∷ take (length xs) ys) first ∙ ap (λ zs. x ∷ zs) (front_same xs ys (λ k z e. same (suc k) z e))

pub cut_stays : (a b d e f : Store) (m n : ℕ) → m ≡ length a.matrices.items → n ≡ length a.integers.items → Extends a b → Stays b d → Stays d e → f.matrices.items ≡ take m e.matrices.items → f.integers.items ≡ take n e.integers.items → Stays a f
cut_stays a b d e f m n is_m is_n extends stays stays_on cut_m cut_n = record {
  matrices = cut_m ∙ ap (λ (ms : List MatrixEntries). take m ms) (stays_on.matrices ∙ stays.matrices) ∙ ap (λ (k : ℕ). take k b.matrices.items) is_m ∙ front_same a.matrices.items b.matrices.items extends.matrices;
  integers = cut_n ∙ ap (λ (ns : List (List Node)). take n ns) (stays_on.integers ∙ stays.integers) ∙ ap (λ (k : ℕ). take k b.integers.items) is_n ∙ front_same a.integers.items b.integers.items extends.integers;
}

pub cut_extended : (a b f : Store) (m n : ℕ) → m ≡ length a.matrices.items → n ≡ length a.integers.items → Extends a b → f.matrices.items ≡ take m b.matrices.items → f.integers.items ≡ take n b.integers.items → Stays a f
cut_extended a b f m n is_m is_n extends cut_m cut_n = cut_stays a b b b f m n is_m is_n extends (stays_refl b) (stays_refl b) cut_m cut_n
