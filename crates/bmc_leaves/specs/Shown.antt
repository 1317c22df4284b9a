-- What rows of nodes and of sets say of the lassos that an assignment shows.
use Rattle.std.specs.Prelude.{◌≡◌, ◌↔◌, ◌⊎◌, ◌<◌, ◌≤◌, ◌+◌, ◌-◌, ℕ, Bool, List, [], ◌∷◌, length, slice_get, Option, Some, None, eqb, if◌then◌else◌, IsTrue, Vec}
use Rattle.std.specs.declared.alloc.Global.{Global}
use Rattle.gate_trait.specs.declared.node.Node.{Node}
use Rattle.core_tree.specs.Trees.{Term, Claim}
use Rattle.core_tree.specs.Past.{BodyDepths}
use Rattle.core_meaning.specs.declared.scopes.Scopes.{Scopes}
use Rattle.core_meaning.specs.Sequence.{LassoValue}
use Rattle.core_tuples.specs.declared.universe.Universe.{Universe}
use Rattle.core_meaning.specs.World.{World, InRelation, IsInteger, InUniverse}
use Rattle.core_meaning.specs.Kept.{atom_count, world_of}
use Rattle.core_meaning.specs.Operators.{Tuples, identity_tuples}
use Rattle.core_meaning.specs.Meaning.{Names, no_names, with_name, atom, InTerm, Holds}
use Rattle.core_meaning.specs.Called.{no_bodies}
use Rattle.gate_matrix.specs.Matrices.{MatrixEntries}
use Rattle.gate_operators.specs.Sets.{MeansSet, IsUniverse}
use Rattle.gate_temporal.specs.Rows.{row_value}
use Rattle.bound_uppers.specs.declared.places.Layout.{Layout}
use Rattle.bound_uppers.specs.declared.table.Bound.{Bound}
use Rattle.bound_uppers.specs.declared.table.Bounds.{Bounds}
use Rattle.bmc_windows.specs.declared.frame.Stretch.{Stretch}
use Rattle.bmc_windows.specs.declared.frame.Frame.{Frame}
use Rattle.bmc_windows.specs.Frames.{IsFrame}
use Rattle.bmc_stack.specs.Sets.{StandsAt}
use Rattle.bmc_leaves.specs.Table.{Decodes}

-- for which atoms names stand, the latest first
abbrev pub Atoms : Type 0
Atoms = List (ℕ × ℕ)

-- what the names stand for
abbrev pub names_of : Atoms → Names
names_of [] = no_names
names_of (b ∷ atoms) = with_name (names_of atoms) b.0 (atom b.1)

-- the atom for which a name stands, if it stands for one
abbrev pub atom_in : Atoms → ℕ → Option ℕ
atom_in [] x = None
atom_in (b ∷ atoms) x = if eqb x b.0 then Some b.1 else atom_in atoms x

-- in what formulas are read: the table, the scopes, the universe, the places, how deep past operators nest, and
-- for which atoms names stand
pub record Reading : Type 0 where
  pub bounds : Bounds
  pub table : Layout
  pub scopes : Scopes
  pub universe : Universe
  pub frame : Frame
  pub depth : ℕ
  pub atoms : Atoms

-- the same where names stand for these atoms
abbrev pub under : Reading → Atoms → Reading
under r atoms = record { bounds = r.bounds; table = r.table; scopes = r.scopes; universe = r.universe; frame = r.frame; depth = r.depth; atoms = atoms }

-- nothing is called
abbrev pub none_nested : BodyDepths
none_nested body d = 0

-- the universe is that of the scopes, within the limits
pub record IsUniverseOf (scopes : Scopes) (universe : Universe) : Type 0 where
  pub atoms : universe.atoms ≡ atom_count scopes.numbers
  pub bits : universe.bits ≡ scopes.bits
  pub valid : IsUniverse universe

-- the places show windows of all loops, each with one round more than past operators nest
pub record IsReading (r : Reading) : Type 0 where
  pub frame : IsFrame r.bounds.states (r.depth + 1) r.frame
  pub few : r.depth ≤ 8
  pub universe : IsUniverseOf r.scopes r.universe

-- a window has this place
abbrev pub HasPlace : Frame → ℕ → Stretch → ℕ → Type 0
HasPlace frame loop s k = (slice_get frame.windows.items loop ≡ Some s) × (k < s.end - s.start)

-- a row is true at the places of each window where a formula holds in the lassos whose loop begins there
pub record IsRight (r : Reading) (value : (ℕ → Bool) → Node → Bool) (f : Claim) (row : List Node) : Type 0 where
  pub inside : (loop k : ℕ) (s : Stretch) → HasPlace r.frame loop s k → s.start + k < length row
  pub holds : (loop k : ℕ) (s : Stretch) → HasPlace r.frame loop s k → (x : ℕ → Bool) (lasso : LassoValue) → Decodes r.bounds r.table x lasso → lasso.loop_start ≡ loop → IsTrue (row_value (value x) row (s.start + k)) ↔ Holds (world_of r.scopes lasso) no_bodies f (names_of r.atoms) k

-- at each place of each window stands a set, which has the tuples that are given for the position
abbrev pub HaveTuples : Reading → ((ℕ → Bool) → Node → Bool) → List MatrixEntries → (LassoValue → ℕ → Tuples) → List ℕ → Type 0
HaveTuples r value matrices has numbers =
    (loop k : ℕ) (s : Stretch) → HasPlace r.frame loop s k → (m : MatrixEntries) × StandsAt matrices numbers (s.start + k) m
    × ((x : ℕ → Bool) (lasso : LassoValue) → Decodes r.bounds r.table x lasso → lasso.loop_start ≡ loop → MeansSet (value x) m (has lasso k))

-- the tuples of an expression
pub record AreRight (r : Reading) (value : (ℕ → Bool) → Node → Bool) (matrices : List MatrixEntries) (e : Term) (numbers : List ℕ) : Type 0 where
  pub sets : HaveTuples r value matrices (λ lasso k. InTerm (world_of r.scopes lasso) no_bodies e (names_of r.atoms) k) numbers

-- a set without parts: that of a relation, by its number, `univ`, `iden` or `Int`
pub data Leaf : Type 0 where
  of_relation : (n : ℕ) → Leaf
  of_univ : Leaf
  of_iden : Leaf
  of_int : Leaf

-- its tuples at a position
abbrev pub leaf_tuples : World → Leaf → ℕ → Tuples
leaf_tuples w (of_relation n) i t = InRelation w n i t
leaf_tuples w of_univ i t = (a : ℕ) × InUniverse w i a × (t ≡ a ∷ [])
leaf_tuples w of_iden i t = identity_tuples w i t
leaf_tuples w of_int i t = (a : ℕ) × IsInteger w a × (t ≡ a ∷ [])

-- its number: the relations come first
abbrev pub IsLeafAt : List Bound → Leaf → ℕ → Type 0
IsLeafAt relations (of_relation n) k = (k ≡ n) × (n < length relations)
IsLeafAt relations of_univ k = k ≡ length relations
IsLeafAt relations of_iden k = k ≡ length relations + 1
IsLeafAt relations of_int k = k ≡ length relations + 2

-- the tuples of such a set
pub record AreOf (r : Reading) (value : (ℕ → Bool) → Node → Bool) (matrices : List MatrixEntries) (leaf : Leaf) (numbers : List ℕ) : Type 0 where
  pub sets : HaveTuples r value matrices (λ lasso k. leaf_tuples (world_of r.scopes lasso) leaf k) numbers

-- the value that is kept under the number of such a set is its own, or nothing is kept of it
abbrev pub AreKept : Reading → ((ℕ → Bool) → Node → Bool) → List MatrixEntries → List (Vec ℕ Global) → Type 0
AreKept r value matrices kept = (leaf : Leaf) (n : ℕ) (numbers : Vec ℕ Global) → IsLeafAt r.bounds.relations leaf n → slice_get kept n ≡ Some numbers → (numbers.items ≡ []) ⊎ AreOf r value matrices leaf numbers.items

-- all sets that there were are there
abbrev pub Stay : List MatrixEntries → List MatrixEntries → Type 0
Stay before after = (k : ℕ) (m : MatrixEntries) → slice_get before k ≡ Some m → slice_get after k ≡ Some m
