-- What the variables say of the gates, where some gates are kept, with a variable, and others have none.
use Rattle.std.specs.Prelude.{◌≡◌, ◌⊎◌, ◌||◌, if◌then◌else◌, ℕ, Bool, true, false, List, length, slice_get, slice_index_or, Some}
use Rattle.std.specs.List.{list_all}
use Rattle.gate_trait.specs.declared.node.Node.{Node}
use Rattle.gate_trait.specs.declared.gate.Gate.{Gate}
use Rattle.gate_trait.specs.declared.gate.Gate.TheVariants.{Constant, Input, And, Or, Xor, Choose}
use Rattle.gate_trait.specs.NodeWords.{is_negated}
use Rattle.gate_trait.specs.Built.{xor}
use Rattle.gate_trait.specs.Circuit.{value_among, gate_value, IsLayered}
use Rattle.gate_tseitin.specs.Named.{marked, named_values, alike, IsNamed}
use Rattle.gate_tseitin.specs.Reached.{HasMark, Grows}

-- each gate that isn't kept has the value that it computes
abbrev pub AreComputed : List Gate → List Bool → (ℕ → Bool) → List Bool → Type 0
AreComputed gates kept v values = (k : ℕ) (g : Gate) → slice_get gates k ≡ Some g → marked kept k ≡ false → slice_index_or values k false ≡ gate_value values v g

-- what an assignment of the variables says of the gates: one that is kept has its variable's value, and another the value
-- that it computes
pub record IsShown (gates : List Gate) (kept : List Bool) (names : List ℕ) (v : ℕ → Bool) (values : List Bool) : Type 0 where
  pub named : (k : ℕ) → marked kept k ≡ true → slice_index_or values k false ≡ slice_index_or (named_values v names) k false
  pub computed : AreComputed gates kept v values

-- an operand of an `and` that is reached: its gate is kept, or reached, and then the operand isn't negated
abbrev pub IsOperand : List Bool → List Bool → Node → Type 0
IsOperand marks kept n = HasMark kept n ⊎ (HasMark marks n × (is_negated n ≡ false))

-- the nodes of the gate are of kept gates, or operands of an `and`
abbrev pub PartsKept : List Bool → List Bool → Gate → Type 0
PartsKept marks kept (Constant b) = Unit {0}
PartsKept marks kept (Input w) = Unit {0}
PartsKept marks kept (And a b) = IsOperand marks kept a × IsOperand marks kept b
PartsKept marks kept (Or a b) = HasMark kept a × HasMark kept b
PartsKept marks kept (Xor a b) = HasMark kept a × HasMark kept b
PartsKept marks kept (Choose c a b) = HasMark kept c × HasMark kept a × HasMark kept b

-- there are marks for each gate, of those that are reached and of those that are kept, and the nodes of a gate that is
-- reached are as above
pub record AreLinked (gates : List Gate) (marks kept : List Bool) : Type 0 where
  pub marks_each : length marks ≡ length gates
  pub kept_each : length kept ≡ length gates
  pub reached : Grows kept marks
  pub parts : (k : ℕ) (g : Gate) → slice_get gates k ≡ Some g → marked marks k ≡ true → PartsKept marks kept g

-- and there is a variable for each gate, an input's its own
pub record AreFitting (gates : List Gate) (marks kept : List Bool) (names : List ℕ) : Type 0 where
  pub layered : IsLayered gates
  pub linked : AreLinked gates marks kept
  pub names_each : length names ≡ length gates
  pub named : (k : ℕ) (g : Gate) → slice_get gates k ≡ Some g → IsNamed names k g

-- whether all nodes are true, where the list has the values of the gates
abbrev pub all_nodes : List Bool → List Node → Bool
all_nodes values nodes = list_all (value_among values) nodes

-- a gate's value, where an `and` is the conjunction of these leaves
abbrev pub value_over : List Bool → (ℕ → Bool) → List Node → Gate → Bool
value_over values v leaves (Constant b) = b
value_over values v leaves (Input w) = v w
value_over values v leaves (And a b) = all_nodes values leaves
value_over values v leaves (Or a b) = value_among values a || value_among values b
value_over values v leaves (Xor a b) = xor (value_among values a) (value_among values b)
value_over values v leaves (Choose c a b) = if value_among values c then value_among values a else value_among values b

-- whether gate k has the value that it computes from the leaves
abbrev pub defined_over : List Bool → (ℕ → Bool) → List Node → ℕ → Gate → Bool
defined_over values v leaves k g = alike (slice_index_or values k false) (value_over values v leaves g)
