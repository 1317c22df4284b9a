-- The tuples of a set.
use Rattle.std.proofs.Common.{◌≡◌, ℕ, zero, suc, ◌<◌, List, [], ◌∷◌, length, All, Some, slice_get, subst, ap, refl, ◌∙◌, arith}
use Rattle.core_tuples.specs.Sets.{TupleList, IsTupleSet}
use Rattle.core_tuples.specs.Index.{IsNumber}

all_at : {X : Type 0} (P : X → Type 0) (xs : List X) (k : ℕ) (x : X) → slice_get xs k ≡ Some x → All P xs → P x
all_at P [] k x e all = cc
all_at P (y ∷ xs) zero x e all = let is : y ≡ x = cc in subst P is (all zero y (omega arith))
all_at P (y ∷ xs) (suc k) x e all = all_at P xs k x e (λ j d lt. all (suc j) d (omega arith))

-- a tuple of a set has the set's columns, and numbers of a universe
pub has_columns : (s : TupleList) (k : ℕ) (t : List ℕ) → IsTupleSet s → slice_get s.tuples k ≡ Some t → length t ≡ s.arity
has_columns s k t is e = all_at (λ t. length t ≡ s.arity) s.tuples k t e is.columns

pub has_numbers : (s : TupleList) (k : ℕ) (t : List ℕ) → IsTupleSet s → slice_get s.tuples k ≡ Some t → All IsNumber t
has_numbers s k t is e = all_at (λ t. All IsNumber t) s.tuples k t e is.numbers

-- lists of one length with the same item at each place are the same
pub same_by_get : {X : Type 0} (xs ys : List X) → length xs ≡ length ys → ((k : ℕ) → k < length xs → slice_get xs k ≡ slice_get ys k) → xs ≡ ys
same_by_get [] [] e h = refl
same_by_get [] (y ∷ ys) e h = absurd (omega arith)
same_by_get (x ∷ xs) [] e h = absurd (omega arith)
same_by_get (x ∷ xs) (y ∷ ys) e h =
    let first : Some x ≡ Some y = h zero (omega arith) in
    let rest = same_by_get xs ys (omega arith) (λ k lt. h (suc k) (omega arith)) in
    cc

-- sets with the same columns and the same tuples are the same
pub same_set : (a b : TupleList) → a.arity ≡ b.arity → a.tuples ≡ b.tuples → a ≡ b
same_set a b e f = ap (λ (n : ℕ). record { arity = n; tuples = a.tuples }) e ∙ ap (λ (ts : List (List ℕ)). record { arity = b.arity; tuples = ts }) f
