-- What one step gives of two sets that are named by their numbers.
use Rattle.std.specs.Prelude.{◌≡◌, ◌↔◌, ◌∷◌, [], ◌++◌, ℕ, Bool, true, List, slice_get, Some}
use Rattle.gate_trait.specs.declared.node.Node.{Node}
use Rattle.gate_matrix.specs.Matrices.{MatrixEntries}
use Rattle.gate_operators.specs.Sets.{MeansSet, set_of}
use Rattle.gate_sets.specs.declared.operators.SetOperator.{SetOperator}
use Rattle.gate_sets.specs.declared.questions.Question.{Question}
use Rattle.gate_sets.specs.Sets.{tuples_made, IsAnswered}
use Rattle.bmc_stack.specs.declared.numbers.Operator.{Operator}
use Rattle.bmc_stack.specs.declared.numbers.Operator.TheVariants.{OfSets}
use Rattle.bmc_stack.specs.declared.numbers.TestOperator.{TestOperator}
use Rattle.bmc_stack.specs.declared.numbers.TestOperator.TheVariants.{OfSets as AskSets}

-- where there are sets of these two numbers, there is then a set of number k, and it is what the operator gives
abbrev pub MakesSet : Operator → ((ℕ → Bool) → Node → Bool) → ((ℕ → Bool) → Node → Bool) → List MatrixEntries → List MatrixEntries → ℕ × ℕ → ℕ → Type 0
MakesSet op old new before after pair k =
    (of : SetOperator) (p q : MatrixEntries) → op ≡ OfSets of → slice_get before pair.0 ≡ Some p → slice_get before pair.1 ≡ Some q
    → (m : MatrixEntries) × (slice_get after k ≡ Some m) × ((x : ℕ → Bool) → MeansSet (new x) m (tuples_made of (set_of (old x) p) (set_of (old x) q)))

-- where there are sets of these two numbers, the node says whether they pass the test
abbrev pub AnswersSets : TestOperator → ((ℕ → Bool) → Node → Bool) → ((ℕ → Bool) → Node → Bool) → List MatrixEntries → ℕ × ℕ → Node → Type 0
AnswersSets question old new matrices pair n =
    (of : Question) (p q : MatrixEntries) → question ≡ AskSets of → slice_get matrices pair.0 ≡ Some p → slice_get matrices pair.1 ≡ Some q
    → (x : ℕ → Bool) → (new x n ≡ true) ↔ IsAnswered of (set_of (old x) p) (set_of (old x) q)

-- a node that says so is added to the row
abbrev pub AddsAnswer : TestOperator → ((ℕ → Bool) → Node → Bool) → ((ℕ → Bool) → Node → Bool) → List MatrixEntries → ℕ × ℕ → List Node → List Node → Type 0
AddsAnswer question old new matrices pair f row = (n : Node) × (row ≡ f ++ n ∷ []) × AnswersSets question old new matrices pair n

-- each number is that of what the operator gives of the pair at its place
abbrev pub AllMade : Operator → ((ℕ → Bool) → Node → Bool) → ((ℕ → Bool) → Node → Bool) → List MatrixEntries → List MatrixEntries → List (ℕ × ℕ) → List ℕ → Type 0
AllMade op old new before after pairs numbers =
    (j : ℕ) (pair : ℕ × ℕ) → slice_get pairs j ≡ Some pair → (k : ℕ) × (slice_get numbers j ≡ Some k) × MakesSet op old new before after pair k

-- each node says whether the pair at its place passes the test
abbrev pub AllAnswered : TestOperator → ((ℕ → Bool) → Node → Bool) → ((ℕ → Bool) → Node → Bool) → List MatrixEntries → List (ℕ × ℕ) → List Node → Type 0
AllAnswered question old new matrices pairs row =
    (j : ℕ) (pair : ℕ × ℕ) → slice_get pairs j ≡ Some pair → (n : Node) × (slice_get row j ≡ Some n) × AnswersSets question old new matrices pair n
