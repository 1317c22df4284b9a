-- Sets at all places: rows of numbers of matrices.
use Rattle.std.specs.Prelude.{◌≡◌, ◌↔◌, ◌<◌, ◌+◌, ℕ, Bool, true, List, length, slice_get, Some}
use Rattle.gate_trait.specs.declared.node.Node.{Node}
use Rattle.gate_matrix.specs.Matrices.{MatrixEntries}
use Rattle.gate_operators.specs.Sets.{MeansSet, set_of}
use Rattle.gate_sets.specs.declared.operators.SetOperator.{SetOperator}
use Rattle.gate_sets.specs.declared.questions.Question.{Question}
use Rattle.gate_sets.specs.Sets.{tuples_made, IsAnswered}
use Rattle.gate_temporal.specs.Rows.{row_value}

-- the set that stands at a place of a row of numbers
abbrev pub StandsAt : List MatrixEntries → List ℕ → ℕ → MatrixEntries → Type 0
StandsAt matrices row i m = (k : ℕ) × (slice_get row i ≡ Some k) × (slice_get matrices k ≡ Some m)

-- at each place at which two rows have sets, the new row has the set that the operator gives of them
abbrev pub AreMade : SetOperator → ((ℕ → Bool) → Node → Bool) → ((ℕ → Bool) → Node → Bool) → List MatrixEntries → List MatrixEntries → List ℕ → List ℕ → List ℕ → Type 0
AreMade op old new before after a b row =
    (i : ℕ) (p q : MatrixEntries) → StandsAt before a i p → StandsAt before b i q
    → (m : MatrixEntries) × StandsAt after row i m × ((x : ℕ → Bool) → MeansSet (new x) m (tuples_made op (set_of (old x) p) (set_of (old x) q)))

-- at each place at which two rows have sets, the nodes say whether these pass the test
abbrev pub AreAnswered : Question → ((ℕ → Bool) → Node → Bool) → ((ℕ → Bool) → Node → Bool) → List MatrixEntries → List ℕ → List ℕ → List Node → Type 0
AreAnswered question old new matrices a b row =
    (i : ℕ) (p q : MatrixEntries) → StandsAt matrices a i p → StandsAt matrices b i q
    → (i < length row) × ((x : ℕ → Bool) → (row_value (new x) row i ≡ true) ↔ IsAnswered question (set_of (old x) p) (set_of (old x) q))
