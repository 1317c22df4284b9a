-- How a merge of two matrices decides which tuples are kept.
use Rattle.std.specs.Prelude.{◌≡◌, ℕ, Bool, not, ◌&&◌, ◌||◌, List, [], ◌∷◌, ◌++◌, Option, Some, None}
use Rattle.std.specs.Option.{ForSome}
use Rattle.gate_trait.specs.declared.node.Node.{Node}
use Rattle.gate_trait.specs.Built.{xor}
use Rattle.gate_matrix.specs.declared.entry.Entry.{Entry}
use Rattle.gate_matrix.specs.declared.merge.Rule.{Rule}
use Rattle.gate_matrix.specs.declared.merge.Rule.TheVariants.{Union, Intersection, Difference, Exclusive}
use Rattle.gate_matrix.specs.Matrices.{truth_of}

-- whether a tuple is kept that is or isn't in the first set, and is or isn't in the second
abbrev pub combine : Rule → Bool → Bool → Bool
combine Union v w = v || w
combine Intersection v w = v && w
combine Difference v w = v && not w
combine Exclusive v w = xor v w

-- the node, if there is one, belongs to the circuit, and it or its absence has this value
pub record OptionComputes {S : Type 0} (belongs : S → Node → Type 0) (value : S → (ℕ → Bool) → Node → Bool) (circuit : S) (o : Option Node) (meaning : (ℕ → Bool) → Bool) : Type 0 where
  pub there : ForSome o (λ n. belongs circuit n)
  pub gives : (x : ℕ → Bool) → truth_of (value circuit x) o ≡ meaning x

-- the entry of a tuple that has a node
abbrev pub entries_of : List ℕ → Option Node → List Entry
entries_of t None = []
entries_of t (Some n) = record { tuple = t; node = n } ∷ []

-- the tuple was added with a node that has this value, or left out where the value is always false
pub record IsAdded {S : Type 0} (belongs : S → Node → Type 0) (value : S → (ℕ → Bool) → Node → Bool) (circuit : S) (old new : List Entry) (tuple : List ℕ) (meaning : (ℕ → Bool) → Bool) : Type 0 where
  pub node : Option Node
  pub computes : OptionComputes belongs value circuit node meaning
  pub is : new ≡ old ++ entries_of tuple node
