-- What sets say at the next places, where one goes back to the chosen loop. Each holds of the assignments that choose the window's own loop.
use Rattle.std.specs.Prelude.{◌≡◌, ◌+◌, ℕ, Bool, List, slice_get, Some}
use Rattle.gate_trait.specs.declared.node.Node.{Node}
use Rattle.gate_matrix.specs.Matrices.{MatrixEntries}
use Rattle.gate_operators.specs.Sets.{MeansSet, set_of}
use Rattle.bmc_windows.specs.declared.frame.Stretch.{Stretch}
use Rattle.bmc_windows.specs.declared.frame.Frame.{Frame}
use Rattle.bmc_stack.specs.Sets.{StandsAt}
use Rattle.bmc_leaves.specs.Loops.{IsChosen, IsNextIn}

-- a set that has, for each assignment, the tuples of the one at the place to which its loop goes back
abbrev pub IsSetAtLoop : ((ℕ → Bool) → Node → Bool) → ((ℕ → Bool) → Node → Bool) → List MatrixEntries → Frame → List Node → List ℕ → MatrixEntries → Type 0
IsSetAtLoop old new matrices frame choices row m = (x : ℕ → Bool) (s : Stretch) (p : MatrixEntries) → IsChosen old frame choices x s → StandsAt matrices row s.back p → MeansSet (new x) m (set_of (old x) p)

-- where the next place is the one behind, its number in the row; else the one that is given
abbrev pub IsNumberNext : List ℕ → List ℕ → ℕ → ℕ → ℕ → Type 0
IsNumberNext row next given i number =
    (j : ℕ) → slice_get next i ≡ Some j → ((j ≡ i + 1) → (n : ℕ) → slice_get row j ≡ Some n → number ≡ n) × (¬ (j ≡ i + 1) → number ≡ given)

-- so at each place
abbrev pub AreNumbersNext : List ℕ → List ℕ → ℕ → List ℕ → Type 0
AreNumbersNext row next given numbers = (i j : ℕ) → slice_get next i ≡ Some j → (number : ℕ) × (slice_get numbers i ≡ Some number) × IsNumberNext row next given i number

-- at each place stands a set that has the tuples of another row's set at the next
abbrev pub AreNextSets : ((ℕ → Bool) → Node → Bool) → ((ℕ → Bool) → Node → Bool) → List MatrixEntries → List MatrixEntries → Frame → List Node → List ℕ → List ℕ → Type 0
AreNextSets old new before after frame choices row next =
    (s : Stretch) (i j : ℕ) (p : MatrixEntries) → slice_get frame.next.items i ≡ Some j → IsNextIn s i j → StandsAt before row j p
    → (m : MatrixEntries) × StandsAt after next i m × ((x : ℕ → Bool) → IsChosen old frame choices x s → MeansSet (new x) m (set_of (old x) p))
