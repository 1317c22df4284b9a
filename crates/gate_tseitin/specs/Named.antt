-- Gates with the variables that stand for them.
use Rattle.std.specs.Prelude.{◌≡◌, ◌-◌, Option, None, pos, neg_ℤ, if◌then◌else◌, ℕ, ℤ, ◌+◌, ◌&&◌, ◌||◌, slice_index, ◌<◌, ◌^◌, Bool, true, false, not, List, [], ◌∷◌, map, Some, slice_index_or}
use Rattle.std.specs.List.{list_any, list_all}
use Rattle.gate_trait.specs.declared.node.Node.{Node}
use Rattle.gate_trait.specs.declared.gate.Gate.{Gate}
use Rattle.gate_trait.specs.declared.gate.Gate.TheVariants.{Constant, Input, And, Or, Xor, Choose}
use Rattle.gate_trait.specs.NodeWords.{number_of, is_negated}
use Rattle.gate_trait.specs.Built.{xor}
use Rattle.gate_trait.specs.Circuit.{value_among, gate_value}
use Rattle.sat_dimacs.specs.Literal.{clause_value}

-- whether all clauses are true
abbrev pub satisfied : (ℕ → Bool) → List (List ℤ) → Bool
satisfied v clauses = list_all (clause_value v) clauses

-- the values of the gates' variables
abbrev pub named_values : (ℕ → Bool) → List ℕ → List Bool
named_values v names = map v names

-- a variable's number is one that a literal can have
abbrev pub IsName : ℕ → Type 0
IsName name = (0 < name) × (name < 2 ^ 63)

-- whether some node is true, where the list has the values of the gates
abbrev pub any_node : List Bool → List Node → Bool
any_node values nodes = list_any (value_among values) nodes

-- whether two values are the same
abbrev pub alike : Bool → Bool → Bool
alike a b = not (xor a b)

-- whether gate k has the value that it computes, where the list has the values of the gates
abbrev pub defined : List Bool → (ℕ → Bool) → ℕ → Gate → Bool
defined values v k g = alike (slice_index_or values k false) (gate_value values v g)

-- an input's variable is the gate's own
abbrev pub IsNamed : List ℕ → ℕ → Gate → Type 0
IsNamed names k (Constant b) = Unit {0}
IsNamed names k (Input w) = slice_index names k ≡ w
IsNamed names k (And a b) = Unit {0}
IsNamed names k (Or a b) = Unit {0}
IsNamed names k (Xor a b) = Unit {0}
IsNamed names k (Choose c a b) = Unit {0}

-- whether gate k is marked
abbrev pub marked : List Bool → ℕ → Bool
marked marks k = slice_index_or marks k false

-- whether the gate has the value that it computes, if it is marked
abbrev pub defined_where : List Bool → (ℕ → Bool) → List Bool → ℕ → Gate → Bool
defined_where values v marks k g = not (marked marks k) || defined values v k g

-- whether the marked gates from number k on have the values that they compute
abbrev pub all_defined : List Bool → (ℕ → Bool) → List Bool → ℕ → List Gate → Bool
all_defined values v marks k [] = true
all_defined values v marks k (g ∷ gates) = defined_where values v marks k g && all_defined values v marks (k + 1) gates

-- an input's variable
abbrev pub input_of : Gate → Option ℕ
input_of (Constant b) = None
input_of (Input w) = Some w
input_of (And a b) = None
input_of (Or a b) = None
input_of (Xor a b) = None
input_of (Choose c a b) = None

-- how many gates other than inputs there are among one, by its input
abbrev pub others : Option ℕ → ℕ
others None = 1
others (Some w) = 0

-- how many of the gates are inputs
abbrev pub input_count : List Gate → ℕ
input_count [] = 0
input_count (g ∷ gates) = input_count gates + (1 - others (input_of g))

-- how many variables a gate takes that no input has: a marked gate that is no input takes one
abbrev pub owns : Option ℕ → Bool → ℕ
owns (Some w) is_marked = 0
owns None true = 1
owns None false = 0

-- how many such variables the gates from number k on take
abbrev pub own_count : List Bool → ℕ → List Gate → ℕ
own_count marks k [] = 0
own_count marks k (g ∷ gates) = owns (input_of g) (marked marks k) + own_count marks (k + 1) gates

-- how many variables there are: one an input, and one each other gate that is marked
abbrev pub variable_count : List Bool → List Gate → ℕ
variable_count marks gates = input_count gates + own_count marks 0 gates

-- a gate's variable: an input's is its own, and another's that is marked the next one. No clause asks
-- for that of a gate without a mark
abbrev pub name_at : ℕ → Option ℕ → Bool → ℕ
name_at next (Some w) is_marked = w
name_at next None true = next
name_at next None false = 1

-- the variables of the gates from number k on, where `next` is the first that is to take
abbrev pub names_from : List Bool → ℕ → ℕ → List Gate → List ℕ
names_from marks next k [] = []
names_from marks next k (g ∷ gates) = name_at next (input_of g) (marked marks k) ∷ names_from marks (next + owns (input_of g) (marked marks k)) (k + 1) gates

-- the literal of a node
abbrev pub literal_of : List ℕ → Node → ℤ
literal_of names n = if is_negated n then neg_ℤ (pos (slice_index names (number_of n))) else pos (slice_index names (number_of n))

-- the clause that a node is true
abbrev pub unit_of : List ℕ → Node → List ℤ
unit_of names n = literal_of names n ∷ []
