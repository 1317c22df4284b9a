-- Which gates some nodes reach: each has a mark.
use Rattle.std.specs.Prelude.{◌≡◌, ℕ, Bool, true, List, All, length, slice_get, Some, slice_set}
use Rattle.gate_trait.specs.declared.node.Node.{Node}
use Rattle.gate_trait.specs.declared.gate.Gate.{Gate}
use Rattle.gate_trait.specs.declared.gate.Gate.TheVariants.{Constant, Input, And, Or, Xor, Choose}
use Rattle.gate_trait.specs.NodeWords.{number_of}
use Rattle.gate_tseitin.specs.Named.{marked}

-- the node's gate is marked
abbrev pub HasMark : List Bool → Node → Type 0
HasMark marks n = marked marks (number_of n) ≡ true

-- the nodes of a gate are marked
abbrev pub PartsMarked : List Bool → Gate → Type 0
PartsMarked marks (Constant b) = Unit {0}
PartsMarked marks (Input w) = Unit {0}
PartsMarked marks (And a b) = HasMark marks a × HasMark marks b
PartsMarked marks (Or a b) = HasMark marks a × HasMark marks b
PartsMarked marks (Xor a b) = HasMark marks a × HasMark marks b
PartsMarked marks (Choose c a b) = HasMark marks c × HasMark marks a × HasMark marks b

-- the nodes of each marked gate are marked
abbrev pub IsClosed : List Bool → List Gate → Type 0
IsClosed marks gates = (k : ℕ) (g : Gate) → slice_get gates k ≡ Some g → marked marks k ≡ true → PartsMarked marks g

-- the marks with one more
abbrev pub with_mark : List Bool → Node → List Bool
with_mark marks n = slice_set marks (number_of n) true

-- the marks with those of a gate's nodes
abbrev pub with_parts : List Bool → Gate → List Bool
with_parts marks (Constant b) = marks
with_parts marks (Input w) = marks
with_parts marks (And a b) = with_mark (with_mark marks a) b
with_parts marks (Or a b) = with_mark (with_mark marks a) b
with_parts marks (Xor a b) = with_mark (with_mark marks a) b
with_parts marks (Choose c a b) = with_mark (with_mark (with_mark marks c) a) b

-- no mark is lost
abbrev pub Grows : List Bool → List Bool → Type 0
Grows old new = (k : ℕ) → marked old k ≡ true → marked new k ≡ true

-- what the node and the roots reach is marked
pub record AreReached (gates : List Gate) (sure : Node) (roots : List Node) (marks : List Bool) : Type 0 where
  pub each : length marks ≡ length gates
  pub surely : HasMark marks sure
  pub rooted : All (HasMark marks) roots
  pub closed : IsClosed marks gates
