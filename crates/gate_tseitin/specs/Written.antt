-- What it is for clauses to say what a circuit says.
use Rattle.std.specs.Prelude.{◌≡◌, ◌<◌, ◌≤◌, ℕ, ℤ, Bool, true, List, [], ◌∷◌, ◌++◌, map, slice_get, Some}
use Rattle.gate_trait.specs.declared.node.Node.{Node}
use Rattle.gate_trait.specs.declared.gate.Gate.{Gate}
use Rattle.gate_trait.specs.declared.gate.Gate.TheVariants.{Input}
use Rattle.gate_trait.specs.Circuit.{value_in}
use Rattle.sat_dimacs.specs.Literal.{literal_value}
use Rattle.gate_tseitin.specs.Named.{satisfied, input_count}

-- the inputs of the circuit are the variables from 1 to their count
pub record AreNumbered (gates : List Gate) : Type 0 where
  pub within : (k w : ℕ) → slice_get gates k ≡ Some (Input w) → (0 < w) × (w ≤ input_count gates)
  pub each : (w : ℕ) → 0 < w → w ≤ input_count gates → (k : ℕ) × (slice_get gates k ≡ Some (Input w))

-- two assignments agree on the variables from 1 to n
abbrev pub Agree : ℕ → (ℕ → Bool) → (ℕ → Bool) → Type 0
Agree n v w = (m : ℕ) → 0 < m → m ≤ n → v m ≡ w m

-- the clauses are definitions and then, for each root, the clause of its literal alone. Each assignment
-- of the inputs under which `sure` is true is extended by one and only one assignment of the definitions;
-- no assignment of the definitions has `sure` false; and in each, a root's literal has the root's value
pub record IsWritten (gates : List Gate) (sure : Node) (roots : List Node) (variables : ℕ) (clauses : List (List ℤ)) : Type 0 where
  pub definitions : List (List ℤ)
  pub literal : Node → ℤ
  pub divided : clauses ≡ definitions ++ map (λ root. literal root ∷ []) roots
  pub extended : (x : ℕ → Bool) → value_in gates x sure ≡ true → (v : ℕ → Bool) × Agree (input_count gates) v x × (satisfied v definitions ≡ true)
  pub unique : (v w : ℕ → Bool) → satisfied v definitions ≡ true → satisfied w definitions ≡ true → Agree (input_count gates) v w → Agree variables v w
  pub surely : (v : ℕ → Bool) → satisfied v definitions ≡ true → value_in gates v sure ≡ true
  pub valued : (v : ℕ → Bool) → satisfied v definitions ≡ true → (k : ℕ) (root : Node) → slice_get roots k ≡ Some root → literal_value v (literal root) ≡ value_in gates v root
