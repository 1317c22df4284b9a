-- Matrices: maps from tuples to nodes.
-- Under values of the nodes, a matrix means the set of the tuples whose nodes are true; a tuple
-- without a node isn't in the set.
use Rattle.std.specs.List.{list_any}
use Rattle.std.specs.Prelude.{◌≡◌, ◌≤◌, ◌⊎◌, ◌&&◌, Contains, drop, ℕ, Bool, false, Option, Some, None, List, [], ◌∷◌, ◌++◌, length, map, All, if◌then◌else◌}
use Rattle.std.specs.List.Sorted.{IsStrictlySortedBy}
use Rattle.core_tuples.specs.Index.{IsNumber}
use Rattle.core_tuples.specs.Sets.{tuple_cmp, is_same}
use Rattle.gate_trait.specs.declared.node.Node.{Node}
use Rattle.gate_matrix.specs.declared.entry.Entry.{Entry}

-- a matrix: its number of columns, and its tuples with their nodes
pub record MatrixEntries : Type 0 where
  pub arity : ℕ
  pub entries : List Entry

-- the tuples that have nodes
abbrev pub tuples_of : List Entry → List (List ℕ)
tuples_of es = map (λ e. e.tuple) es

-- one to nine columns; each tuple has so many numbers, each of a universe; and each tuple is below those after it
pub record IsMatrix (m : MatrixEntries) : Type 0 where
  pub least : 1 ≤ m.arity
  pub most : m.arity ≤ 9
  pub columns : All (λ e. length e.tuple ≡ m.arity) m.entries
  pub numbers : All (λ e. All IsNumber e.tuple) m.entries
  pub sorted : IsStrictlySortedBy tuple_cmp (tuples_of m.entries)

-- the tuple's node, if it has one
abbrev pub node_at : List Entry → List ℕ → Option Node
node_at [] t = None
node_at (e ∷ es) t = if is_same e.tuple t then Some e.node else node_at es t

-- an absent node is false
abbrev pub truth_of : (Node → Bool) → Option Node → Bool
truth_of value None = false
truth_of value (Some n) = value n

-- whether the tuple is in the set that the matrix means where the nodes have these values
abbrev pub truth : (Node → Bool) → MatrixEntries → List ℕ → Bool
truth value m t = truth_of value (node_at m.entries t)

-- the nodes of the entries belong to the circuit
abbrev pub AllBelong : (Node → Type 0) → List Entry → Type 0
AllBelong belongs es = All (λ e. belongs e.node) es

-- whether some entry has the tuple and a true node
abbrev pub has : (Node → Bool) → List Entry → List ℕ → Bool
has value es t = list_any (λ e. is_same e.tuple t && value e.node) es

-- whether the tuple is `head` followed by an entry's tuple without its first `skip` numbers, where both nodes are true
abbrev pub has_row : (Node → Bool) → List ℕ → Node → ℕ → List Entry → List ℕ → Bool
has_row value head node skip es t = list_any (λ e. is_same (head ++ drop skip e.tuple) t && (value node && value e.node)) es

-- the matrix after a tuple was given a node: only that tuple's node is another
pub record IsPut (old : MatrixEntries) (tuple : List ℕ) (node : Node) (new : MatrixEntries) : Type 0 where
  pub columns : new.arity ≡ old.arity
  pub nodes : (t : List ℕ) → node_at new.entries t ≡ (if is_same tuple t then Some node else node_at old.entries t)
  pub from : All (λ e. ((e.tuple ≡ tuple) × (e.node ≡ node)) ⊎ Contains old.entries e) new.entries
