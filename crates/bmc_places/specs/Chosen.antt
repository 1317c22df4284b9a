-- Sets that depend on where a formula holds.
use Rattle.std.specs.Prelude.{◌≡◌, ◌⊎◌, ◌<◌, ℕ, Bool, List, [], ◌∷◌, ◌++◌, slice_get, Some}
use Rattle.gate_trait.specs.declared.node.Node.{Node}
use Rattle.gate_matrix.specs.Matrices.{MatrixEntries}
use Rattle.gate_operators.specs.Sets.{MeansSet, set_of}
use Rattle.gate_sets.specs.Sets.{chosen_tuples}
use Rattle.bmc_stack.specs.Sets.{StandsAt}

-- where there are sets of these two numbers, there is then a set of number k: the first where the node is true, else the second
abbrev pub ChoosesAt : ((ℕ → Bool) → Node → Bool) → ((ℕ → Bool) → Node → Bool) → List MatrixEntries → List MatrixEntries → Node → ℕ → ℕ → ℕ → Type 0
ChoosesAt old new before after n a b k =
    (p q : MatrixEntries) → slice_get before a ≡ Some p → slice_get before b ≡ Some q
    → (m : MatrixEntries) × (slice_get after k ≡ Some m) × ((x : ℕ → Bool) → MeansSet (new x) m (chosen_tuples (old x n) (set_of (old x) p) (set_of (old x) q)))

-- the same of what stands at a place
abbrev pub ChoosesThere : ((ℕ → Bool) → Node → Bool) → ((ℕ → Bool) → Node → Bool) → List MatrixEntries → List MatrixEntries → List Node → List ℕ → List ℕ → ℕ → ℕ → Type 0
ChoosesThere old new before after row a b i k =
    (n : Node) (p q : MatrixEntries) → slice_get row i ≡ Some n → StandsAt before a i p → StandsAt before b i q
    → (m : MatrixEntries) × (slice_get after k ≡ Some m) × ((x : ℕ → Bool) → MeansSet (new x) m (chosen_tuples (old x n) (set_of (old x) p) (set_of (old x) q)))

-- at a place at which there are a node and two sets stands the set that is chosen
abbrev pub ChosenAt : ((ℕ → Bool) → Node → Bool) → ((ℕ → Bool) → Node → Bool) → List MatrixEntries → List MatrixEntries → List Node → List ℕ → List ℕ → List ℕ → ℕ → Type 0
ChosenAt old new before after row a b numbers i =
    (n : Node) (p q : MatrixEntries) → slice_get row i ≡ Some n → StandsAt before a i p → StandsAt before b i q
    → (m : MatrixEntries) × StandsAt after numbers i m × ((x : ℕ → Bool) → MeansSet (new x) m (chosen_tuples (old x n) (set_of (old x) p) (set_of (old x) q)))

-- at all places
abbrev pub AreChosen : ((ℕ → Bool) → Node → Bool) → ((ℕ → Bool) → Node → Bool) → List MatrixEntries → List MatrixEntries → List Node → List ℕ → List ℕ → List ℕ → Type 0
AreChosen old new before after row a b numbers = (i : ℕ) → ChosenAt old new before after row a b numbers i

-- the node and the numbers of the sets are the same at two places
pub record AreAlike (row : List Node) (a b : List ℕ) (i j : ℕ) : Type 0 where
  pub node : slice_get row i ≡ slice_get row j
  pub first : slice_get a i ≡ slice_get a j
  pub second : slice_get b i ≡ slice_get b j

-- a number is added: that of an earlier place that is like this one, or that of a set that is chosen here
abbrev pub AddsChosen : ((ℕ → Bool) → Node → Bool) → ((ℕ → Bool) → Node → Bool) → List MatrixEntries → List MatrixEntries → List Node → List ℕ → List ℕ → ℕ → List ℕ → List ℕ → Type 0
AddsChosen old new before after row a b place numbers more =
    (k : ℕ) × (more ≡ numbers ++ k ∷ [])
    × (((j : ℕ) × (j < place) × ((n : ℕ) → slice_get numbers j ≡ Some n → k ≡ n) × AreAlike row a b j place) ⊎ ChoosesThere old new before after row a b place k)
