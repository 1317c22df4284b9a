-- What operators give of sets and integers, and comparisons.
use Rattle.std.specs.Prelude.{◌≡◌, ◌↔◌, ◌<◌, ℕ, ℤ, Bool, true, List, [], ◌∷◌, length, slice_get, Some}
use Rattle.gate_trait.specs.declared.node.Node.{Node}
use Rattle.core_tree.specs.declared.operators.Comparison.{Comparison}
use Rattle.core_meaning.specs.Integers.{wrap, result_of}
use Rattle.core_meaning.specs.Operators.{IsCount, IsNumber}
use Rattle.core_meaning.specs.World.{World}
use Rattle.core_tuples.specs.declared.universe.Universe.{Universe}
use Rattle.gate_arithmetic.specs.Singles.{atom_for}
use Rattle.gate_integers.specs.Numbers.{signed}
use Rattle.gate_matrix.specs.Matrices.{MatrixEntries}
use Rattle.gate_operators.specs.Sets.{MeansSet, set_of}
use Rattle.gate_numbers.specs.Numbers.{AreSo}
use Rattle.gate_temporal.specs.Rows.{row_value}
use Rattle.bmc_stack.specs.declared.store.Store.{Store}
use Rattle.bmc_places.specs.declared.numbers.IntegerOperator.{IntegerOperator}
use Rattle.bmc_places.specs.declared.numbers.IntegerOperator.TheVariants.{Count, Total, Of, AsSet}

-- where there is what the operator takes, there is then a set or an integer of number k, and it is what the operator
-- gives, in each world with the atoms and the width of the universe
abbrev pub MakesInteger : IntegerOperator → Universe → ((ℕ → Bool) → Node → Bool) → ((ℕ → Bool) → Node → Bool) → Store → Store → ℕ × ℕ → ℕ → Type 0
MakesInteger Count u old new a b pair k =
    (p : MatrixEntries) → slice_get a.matrices.items pair.0 ≡ Some p
    → (s : List Node) × (slice_get b.integers.items k ≡ Some s) × (length s ≡ u.bits) × ((x : ℕ → Bool) (w : World) → w.bits ≡ u.bits → IsCount w (set_of (old x) p) (signed (new x) s))
MakesInteger Total u old new a b pair k =
    (p : MatrixEntries) → slice_get a.matrices.items pair.0 ≡ Some p
    → (s : List Node) × (slice_get b.integers.items k ≡ Some s) × (length s ≡ u.bits) × ((x : ℕ → Bool) (w : World) → w.atoms ≡ u.atoms → w.bits ≡ u.bits → IsNumber w (set_of (old x) p) (signed (new x) s))
MakesInteger (Of op) u old new a b pair k =
    (p q : List Node) → slice_get a.integers.items pair.0 ≡ Some p → slice_get a.integers.items pair.1 ≡ Some q
    → (s : List Node) × (slice_get b.integers.items k ≡ Some s) × (length s ≡ length p) × ((x : ℕ → Bool) → signed (new x) s ≡ wrap (length p) (result_of op (signed (old x) p) (signed (old x) q)))
MakesInteger AsSet u old new a b pair k =
    (s : List Node) → slice_get a.integers.items pair.0 ≡ Some s
    → (m : MatrixEntries) × (slice_get b.matrices.items k ≡ Some m) × ((x : ℕ → Bool) → MeansSet (new x) m (λ t. t ≡ atom_for u (signed (old x) s) ∷ []))

-- at each place
abbrev pub AreIntegers : IntegerOperator → Universe → ((ℕ → Bool) → Node → Bool) → ((ℕ → Bool) → Node → Bool) → Store → Store → List ℕ → List ℕ → List ℕ → Type 0
AreIntegers op u old new a b first second row =
    (i m n : ℕ) → slice_get first i ≡ Some m → slice_get second i ≡ Some n → (k : ℕ) × (slice_get row i ≡ Some k) × MakesInteger op u old new a b (m, n) k

-- the node says whether the integers at a place compare so
abbrev pub ComparesAt : Comparison → ((ℕ → Bool) → Node → Bool) → ((ℕ → Bool) → Node → Bool) → List (List Node) → List ℕ → List ℕ → ℕ → Node → Type 0
ComparesAt op old new integers first second i n =
    (m o : ℕ) (p q : List Node) → slice_get first i ≡ Some m → slice_get second i ≡ Some o → slice_get integers m ≡ Some p → slice_get integers o ≡ Some q
    → (x : ℕ → Bool) → (new x n ≡ true) ↔ AreSo op (signed (old x) p) (signed (old x) q)

-- the row says so of so many places
pub record AreCompared (op : Comparison) (old new : (ℕ → Bool) → Node → Bool) (integers : List (List Node)) (first second : List ℕ) (count : ℕ) (row : List Node) : Type 0 where
  pub long : length row ≡ count
  pub says : (i m o : ℕ) (p q : List Node) → i < count → slice_get first i ≡ Some m → slice_get second i ≡ Some o → slice_get integers m ≡ Some p → slice_get integers o ≡ Some q
      → (x : ℕ → Bool) → (row_value (new x) row i ≡ true) ↔ AreSo op (signed (old x) p) (signed (old x) q)

-- at each of so many places stands the same integer, wrapped to a width
abbrev pub IsSame : ((ℕ → Bool) → Node → Bool) → List (List Node) → ℕ → ℤ → ℕ → List ℕ → Type 0
IsSame value integers width z count row =
    (s : List Node) × (length s ≡ width) × ((x : ℕ → Bool) → signed (value x) s ≡ wrap width z)
    × ((i : ℕ) → i < count → (k : ℕ) × (slice_get row i ≡ Some k) × (slice_get integers k ≡ Some s))
