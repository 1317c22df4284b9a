-- What operators give at the places of rows.
use Rattle.std.specs.Prelude.{◌≡◌, ◌↔◌, ◌<◌, ◌+◌, ◌-◌, ◌&&◌, not, ℕ, Bool, List, [], ◌∷◌, ◌++◌, length, slice_get, Some, IsTrue}
use Rattle.gate_trait.specs.declared.node.Node.{Node}
use Rattle.gate_matrix.specs.Matrices.{MatrixEntries}
use Rattle.gate_temporal.specs.Rows.{row_value}
use Rattle.gate_temporal.specs.Times.{SinceAt, BeforeAt}
use Rattle.bmc_windows.specs.declared.frame.Stretch.{Stretch}
use Rattle.bmc_windows.specs.declared.frame.Frame.{Frame}
use Rattle.bmc_stack.specs.declared.store.Store.{Store}
use Rattle.bmc_stack.specs.declared.windows.TimeOperator.{TimeOperator}
use Rattle.bmc_stack.specs.declared.windows.TimeOperator.TheVariants.{Before, Since}

-- the row is as long as the other two, and true where both are
pub record AreBoth (old new : (ℕ → Bool) → Node → Bool) (f g row : List Node) : Type 0 where
  pub second : length g ≡ length f
  pub long : length row ≡ length f
  pub values : (x : ℕ → Bool) (i : ℕ) → i < length f → row_value (new x) row i ≡ (row_value (old x) f i && row_value (old x) g i)

-- the row has the values of another at places that are named; where it has no such place, false
pub record IsSpread (value : (ℕ → Bool) → Node → Bool) (f : List Node) (places : List ℕ) (row : List Node) : Type 0 where
  pub long : length row ≡ length places
  pub values : (x : ℕ → Bool) (i k : ℕ) → slice_get places i ≡ Some k → row_value (value x) row i ≡ row_value (value x) f k

-- the row has the values of a part of another, which begins at a place; where it has no more places, false
pub record IsPart (value : (ℕ → Bool) → Node → Bool) (f : List Node) (from count : ℕ) (row : List Node) : Type 0 where
  pub long : length row ≡ count
  pub values : (x : ℕ → Bool) (i : ℕ) → i < count → row_value (value x) row i ≡ row_value (value x) f (from + i)

-- what an operator says at a place of a window, where the operands have these values
abbrev pub GoesOn : TimeOperator → (ℕ → Bool) → (ℕ → Bool) → ℕ → Type 0
GoesOn Before f g i = BeforeAt (λ j. IsTrue (g j)) i
GoesOn Since f g i = SinceAt (λ j. IsTrue (f j)) (λ j. IsTrue (g j)) i

-- what the operator gives in one window
pub record IsMoving (op : TimeOperator) (old new : (ℕ → Bool) → Node → Bool) (f g row : List Node) : Type 0 where
  pub long : length row ≡ length f
  pub values : (x : ℕ → Bool) (i : ℕ) → i < length f → IsTrue (row_value (new x) row i) ↔ GoesOn op (row_value (old x) f) (row_value (old x) g) i

-- what it gives at the places of one window
abbrev pub GoesIn : TimeOperator → (Node → Bool) → (Node → Bool) → Stretch → List Node → List Node → List Node → Type 0
GoesIn op old new s f g row = (k : ℕ) → k < s.end - s.start → IsTrue (row_value new row (s.start + k)) ↔ GoesOn op (λ j. row_value old f (s.start + j)) (λ j. row_value old g (s.start + j)) k

-- a row for one window alone
pub record IsMoved (op : TimeOperator) (old new : (ℕ → Bool) → Node → Bool) (s : Stretch) (f g more : List Node) : Type 0 where
  pub long : length more ≡ s.end - s.start
  pub values : (x : ℕ → Bool) (k : ℕ) → k < s.end - s.start → IsTrue (row_value (new x) more k) ↔ GoesOn op (λ j. row_value (old x) f (s.start + j)) (λ j. row_value (old x) g (s.start + j)) k

-- what it gives at the places of all windows
pub record IsAlong (op : TimeOperator) (old new : (ℕ → Bool) → Node → Bool) (frame : Frame) (f g row : List Node) : Type 0 where
  pub long : length row ≡ length frame.shown.items
  pub values : (x : ℕ → Bool) (loop : ℕ) (s : Stretch) → slice_get frame.windows.items loop ≡ Some s → GoesIn op (old x) (new x) s f g row

-- the row is as long as another, and true where that is false
pub record IsNegated (value : (ℕ → Bool) → Node → Bool) (f row : List Node) : Type 0 where
  pub long : length row ≡ length f
  pub values : (x : ℕ → Bool) (i : ℕ) → i < length f → row_value (value x) row i ≡ not (row_value (value x) f i)

-- the row has a value at each of so many places
pub record IsConstant (value : (ℕ → Bool) → Node → Bool) (count : ℕ) (b : Bool) (row : List Node) : Type 0 where
  pub long : length row ≡ count
  pub values : (x : ℕ → Bool) (i : ℕ) → i < count → row_value (value x) row i ≡ b

-- the row on top is taken away
pub record IsPopped (old new : Store) (row : List Node) : Type 0 where
  pub rows : (rest : List (List Node)) (f : List Node) → old.rows.items ≡ rest ++ f ∷ [] → (row ≡ f) × (new.rows.items ≡ rest)
  pub matrices : new.matrices.items ≡ old.matrices.items
  pub integers : new.integers.items ≡ old.integers.items

-- a row is put on the stack
pub record IsPushed (old new : Store) (row : List Node) : Type 0 where
  pub rows : new.rows.items ≡ old.rows.items ++ row ∷ []
  pub matrices : new.matrices.items ≡ old.matrices.items
  pub integers : new.integers.items ≡ old.integers.items

-- the sets and integers are as before
pub record AreBeside (old new : Store) : Type 0 where
  pub matrices : new.matrices.items ≡ old.matrices.items
  pub integers : new.integers.items ≡ old.integers.items

-- one more row than `rest` is on the stack, and it has the property
abbrev pub HasTop : List (List Node) → List (List Node) → (List Node → Type 0) → Type 0
HasTop rest rows P = (row : List Node) × (rows ≡ rest ++ row ∷ []) × P row

-- a set is added behind the others
pub record IsAdded (old new : Store) (m : MatrixEntries) : Type 0 where
  pub matrices : new.matrices.items ≡ old.matrices.items ++ m ∷ []
  pub rows : new.rows.items ≡ old.rows.items
  pub integers : new.integers.items ≡ old.integers.items

-- the rows are as before, and so are the sets and integers that there were
pub record Grows (old new : Store) : Type 0 where
  pub rows : new.rows.items ≡ old.rows.items
  pub matrices : (k : ℕ) (m : MatrixEntries) → slice_get old.matrices.items k ≡ Some m → slice_get new.matrices.items k ≡ Some m
  pub integers : (k : ℕ) (b : List Node) → slice_get old.integers.items k ≡ Some b → slice_get new.integers.items k ≡ Some b
