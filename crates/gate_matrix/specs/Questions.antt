-- Questions about sets.
use Rattle.std.specs.Prelude.{◌≡◌, ℕ, Bool, true, false, ◌&&◌, ◌||◌, List, [], ◌∷◌}
use Rattle.std.specs.List.{list_any}
use Rattle.gate_trait.specs.Built.{Computes}
use Rattle.gate_matrix.specs.declared.entry.Entry.{Entry}
use Rattle.gate_trait.specs.declared.node.Node.{Node}
use Rattle.gate_matrix.specs.Matrices.{MatrixEntries, truth}

-- some tuple is in the set
abbrev pub HasSome : (Node → Bool) → MatrixEntries → Type 0
HasSome value m = (t : List ℕ) × (truth value m t ≡ true)

-- no two different tuples are in the set
abbrev pub HasLone : (Node → Bool) → MatrixEntries → Type 0
HasLone value m = (s t : List ℕ) → truth value m s ≡ true → truth value m t ≡ true → s ≡ t

-- just one tuple is in the set
abbrev pub HasOne : (Node → Bool) → MatrixEntries → Type 0
HasOne value m = HasSome value m × HasLone value m

-- each tuple of the first set is in the second
abbrev pub IsInside : (Node → Bool) → MatrixEntries → MatrixEntries → Type 0
IsInside value a b = (t : List ℕ) → truth value a t ≡ true → truth value b t ≡ true

-- the sets have the same tuples
abbrev pub IsEqual : (Node → Bool) → MatrixEntries → MatrixEntries → Type 0
IsEqual value a b = (t : List ℕ) → truth value a t ≡ truth value b t

-- two nodes of the circuit, with what each means
pub record BothCompute {S : Type 0} (belongs : S → Node → Type 0) (value : S → (ℕ → Bool) → Node → Bool) (circuit : S) (n m : Node) (first second : (ℕ → Bool) → Bool) : Type 0 where
  pub one : Computes belongs value circuit n first
  pub two : Computes belongs value circuit m second

-- whether the nodes of two entries are true
abbrev pub more_than_one : (Node → Bool) → List Entry → Bool
more_than_one value [] = false
more_than_one value (e ∷ es) = (value e.node && list_any (λ f. value f.node) es) || more_than_one value es
