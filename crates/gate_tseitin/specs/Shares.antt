-- How much the nodes of reached gates ask of a gate: 1 for an operand of an `and` that isn't negated, and 2 for any other
-- node. So a gate of which they ask 1 at most is named once at most, and by such an operand.
use Rattle.std.specs.Prelude.{◌≡◌, ◌+◌, ◌==◌, if◌then◌else◌, min, not, ◌&&◌, nat_lt, ℕ, Bool, true, false, List, [], ◌∷◌, slice_index}
use Rattle.gate_trait.specs.declared.node.Node.{Node}
use Rattle.gate_trait.specs.declared.gate.Gate.{Gate}
use Rattle.gate_trait.specs.declared.gate.Gate.TheVariants.{Constant, Input, And, Or, Xor, Choose}
use Rattle.gate_trait.specs.NodeWords.{number_of, is_negated}
use Rattle.gate_tseitin.specs.Named.{marked}

-- what a node asks of gate k, if it asks this much of its own gate
abbrev pub share : ℕ → Node → ℕ → ℕ
share k n much = if number_of n == k then much else 0

-- how much a node asks of its gate as an operand of an `and`
abbrev pub inner : Node → ℕ
inner n = if is_negated n then 2 else 1

-- what the nodes of a gate ask of gate k
abbrev pub share_in : ℕ → Gate → ℕ
share_in k (Constant b) = 0
share_in k (Input w) = 0
share_in k (And a b) = share k a (inner a) + share k b (inner b)
share_in k (Or a b) = share k a 2 + share k b 2
share_in k (Xor a b) = share k a 2 + share k b 2
share_in k (Choose c a b) = share k c 2 + share k a 2 + share k b 2

-- what a gate asks of gate k, if it is marked
abbrev pub share_where : Bool → ℕ → Gate → ℕ
share_where is_marked k g = if is_marked then share_in k g else 0

-- what the marked gates from number j on ask of gate k
abbrev pub shares : List Bool → ℕ → ℕ → List Gate → ℕ
shares marks k j [] = 0
shares marks k j (g ∷ gates) = share_where (marked marks j) k g + shares marks k (j + 1) gates

-- what nodes ask of gate k that are no operands
abbrev pub node_shares : ℕ → List Node → ℕ
node_shares k [] = 0
node_shares k (n ∷ nodes) = share k n 2 + node_shares k nodes

-- what all ask of gate k
abbrev pub all_shares : List Gate → Node → List Node → List Bool → ℕ → ℕ
all_shares gates sure roots marks k = share k sure 2 + node_shares k roots + shares marks k 0 gates

-- in the new list more is asked of gate k than in the old one, where both count no further than 2
abbrev pub Asks : List ℕ → List ℕ → ℕ → ℕ → Type 0
Asks old new k more = min (slice_index new k) 2 ≡ min (slice_index old k + more) 2

-- whether a gate is an `and`
abbrev pub is_and : Gate → Bool
is_and (Constant b) = false
is_and (Input w) = false
is_and (And a b) = true
is_and (Or a b) = false
is_and (Xor a b) = false
is_and (Choose c a b) = false

-- whether a gate of which so much is asked is kept
abbrev pub stays : Gate → ℕ → Bool → Bool
stays g asked is_marked = is_marked && not (is_and g && nat_lt asked 2)
