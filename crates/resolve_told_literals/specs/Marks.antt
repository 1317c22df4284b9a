-- What the test notes: the places of labels, and which of them are those of literals.
use Rattle.std.specs.Prelude.{◌≡◌, ◌⊎◌, ℕ, ◌<◌, ◌≤◌, Bool, true, List, length, Option, Some, slice_get}
use Rattle.core_tree.specs.declared.model.Sig.{Sig}
use Rattle.resolve_told_literals.specs.Told.{HasLabel, quoted}

-- It finds the number of a sig by its label: of each of those from number `first` to before number `end`, and of no other.
pub record Finds (sigs : List Sig) (first end : ℕ) (find : List ℕ → Option ℕ) : Type 0 where
  pub each : (label : List ℕ) (n : ℕ) → find label ≡ Some n → (first ≤ n) × HasLabel sigs n label
  pub every : (n : ℕ) (d : Sig) → first ≤ n → n < end → slice_get sigs n ≡ Some d → find d.label ≡ Some n

-- Each literal of a set is found. What is marked afterwards was marked before, or is one of them.
pub record AreMarked (find : List ℕ → Option ℕ) (IsLiteral : List ℕ → Type 0) (old new : List Bool) : Type 0 where
  pub count : length new ≡ length old
  pub found : (text : List ℕ) → IsLiteral text → (n : ℕ) × (find (quoted text) ≡ Some n)
  pub only : (n : ℕ) → slice_get new n ≡ Some true → (slice_get old n ≡ Some true) ⊎ ((text : List ℕ) × IsLiteral text × (find (quoted text) ≡ Some n))

-- Each literal of a set is found, and each number from `first` to before `end` is that of one.
pub record AreFound (find : List ℕ → Option ℕ) (IsLiteral : List ℕ → Type 0) (first end : ℕ) : Type 0 where
  pub found : (text : List ℕ) → IsLiteral text → (n : ℕ) × (find (quoted text) ≡ Some n)
  pub each : (n : ℕ) → first ≤ n → n < end → (text : List ℕ) × IsLiteral text × (find (quoted text) ≡ Some n)
