-- What a call that builds a circuit promises, whatever the circuit is.
-- `belongs` says which nodes a circuit has, and `value` gives a node's value under an assignment
-- of the inputs.
use Rattle.std.specs.Prelude.{◌≡◌, ℕ, Bool, not, if◌then◌else◌, List, All}
use Rattle.gate_trait.specs.declared.node.Node.{Node}

-- whether just one of two values is true
abbrev pub xor : Bool → Bool → Bool
xor a b = if a then not b else b

-- each node of the old circuit belongs to the new one, with the same value under each assignment
pub record Keeps {S : Type 0} (belongs : S → Node → Type 0) (value : S → (ℕ → Bool) → Node → Bool) (old new : S) : Type 0 where
  pub belong : (n : Node) → belongs old n → belongs new n
  pub values : (n : Node) → belongs old n → (x : ℕ → Bool) → value new x n ≡ value old x n

-- the node belongs to the circuit, and under each assignment has the value that the function gives
pub record Computes {S : Type 0} (belongs : S → Node → Type 0) (value : S → (ℕ → Bool) → Node → Bool) (circuit : S) (n : Node) (meaning : (ℕ → Bool) → Bool) : Type 0 where
  pub there : belongs circuit n
  pub gives : (x : ℕ → Bool) → value circuit x n ≡ meaning x

-- the nodes of a list all have the property, as to belong to a circuit
abbrev pub AllIn : (Node → Type 0) → List Node → Type 0
AllIn belongs row = All belongs row
