-- Bounds with multiplicities.
use Rattle.bmc_places.specs.Rests.{joined}
use Rattle.std.specs.Prelude.{◌≡◌, ◌↔◌, ◌≤◌, ◌<◌, ◌+◌, ℕ, Bool, List, Contains, drop, length, IsTrue}
use Rattle.gate_trait.specs.declared.node.Node.{Node}
use Rattle.core_tree.specs.Trees.{Term}
use Rattle.core_tree.specs.Past.{no_depths, past_in}
use Rattle.core_tree.specs.declared.operators.Multiplicity.{Multiplicity}
use Rattle.core_meaning.specs.Sequence.{LassoValue}
use Rattle.core_meaning.specs.World.{World}
use Rattle.core_meaning.specs.Kept.{world_of}
use Rattle.core_meaning.specs.Operators.{Tuples, HasMultiplicity}
use Rattle.core_meaning.specs.Meaning.{Names, InTerm, Fits}
use Rattle.core_meaning.specs.Called.{no_bodies}
use Rattle.gate_matrix.specs.Matrices.{MatrixEntries}
use Rattle.gate_operators.specs.Sets.{set_of}
use Rattle.gate_temporal.specs.Rows.{row_value}
use Rattle.bmc_windows.specs.declared.frame.Stretch.{Stretch}
use Rattle.bmc_stack.specs.Sets.{StandsAt}
use Rattle.bmc_leaves.specs.Lying.{IsFree, AsksNothing}
use Rattle.bmc_leaves.specs.Shown.{names_of, Reading, HasPlace, none_nested}
use Rattle.bmc_leaves.specs.Table.{Decodes}
use Rattle.bmc_walk.specs.declared.walk.Known.{Known}
use Rattle.bmc_walk.specs.declared.walk.Ground.{Ground}
use Rattle.bmc_walk.specs.Variables.{SayIn}
use Rattle.bmc_walk.specs.Walked.{read_in, IsGround}

-- what goes with a tuple of one end
abbrev pub with_end : Bool → List ℕ → Tuples → Tuples
with_end at_start s E u = E (joined at_start s u)

-- a multiplicity and the arrows behind it ask nothing
abbrev pub IsSilent : Multiplicity → Term → Type 0
IsSilent word e = IsFree word × AsksNothing e

-- a row says of the set that stands at each place of the windows whether it has a property
abbrev pub MarksSets : Reading → ((ℕ → Bool) → Node → Bool) → ((ℕ → Bool) → Node → Bool) → List MatrixEntries → List ℕ → (LassoValue → ℕ → Tuples → Type 0) → List Node → Type 0
MarksSets r old new matrices set P row =
    (loop k : ℕ) (s : Stretch) → HasPlace r.frame loop s k → (m : MatrixEntries) → StandsAt matrices set (s.start + k) m → (s.start + k < length row)
    × ((x : ℕ → Bool) (lasso : LassoValue) → Decodes r.bounds r.table x lasso → lasso.loop_start ≡ loop → IsTrue (row_value (new x) row (s.start + k)) ↔ P lasso k (set_of (old x) m))

-- what the arrow at the end asks of each tuple in turn
abbrev pub EndHolds : World → Names → ℕ → Bool → Multiplicity → Term → Tuples → (List ℕ → Type 0) → Type 0
EndHolds w names k at_start word other E Allowed =
    (s : List ℕ) → Allowed s → HasMultiplicity word (with_end at_start s E) × Fits w no_bodies other names k (with_end at_start s E)

-- whether the sets keep the arrows of a bound
pub record FitsSets (ground : Ground) (known : Known) (old new : (ℕ → Bool) → Node → Bool) (before : List MatrixEntries) (bound : Term) (set : List ℕ) (row : List Node) : Type 0 where
  pub right : (h : ℕ) → IsGround ground old before h → past_in none_nested bound no_depths ≤ h
      → MarksSets (read_in ground known h) old new before set (λ lasso k E. Fits (world_of (read_in ground known h).scopes lasso) no_bodies bound (names_of (read_in ground known h).atoms) k E) row

-- the same of one end
pub record EndFits (ground : Ground) (known : Known) (old new : (ℕ → Bool) → Node → Bool) (before : List MatrixEntries) (at_start : Bool) (word : Multiplicity) (end other : Term) (set : List ℕ) (row : List Node) : Type 0 where
  pub right : (h : ℕ) → IsGround ground old before h → past_in none_nested end no_depths ≤ h → past_in none_nested other no_depths ≤ h
      → MarksSets (read_in ground known h) old new before set (λ lasso k E. EndHolds (world_of (read_in ground known h).scopes lasso) (names_of (read_in ground known h).atoms) k at_start word other E (InTerm (world_of (read_in ground known h).scopes lasso) no_bodies end (names_of (read_in ground known h).atoms) k)) row

-- the same for these tuples, of which a row says where they are at the end
pub record TuplesFit (ground : Ground) (known : Known) (old new : (ℕ → Bool) → Node → Bool) (before : List MatrixEntries) (at_start : Bool) (word : Multiplicity) (other : Term) (set : List ℕ) (tuples : List (List ℕ)) (nodes row : List Node) : Type 0 where
  pub right : (h : ℕ) → IsGround ground old before h → past_in none_nested other no_depths ≤ h → (end : Term) → SayIn (read_in ground known h) old end tuples nodes
      → MarksSets (read_in ground known h) old new before set (λ lasso k E. EndHolds (world_of (read_in ground known h).scopes lasso) (names_of (read_in ground known h).atoms) k at_start word other E (λ s. Contains tuples s × InTerm (world_of (read_in ground known h).scopes lasso) no_bodies end (names_of (read_in ground known h).atoms) k s)) row

-- the same for the tuple at a place and those behind it
pub record AddsTuple (ground : Ground) (known : Known) (old new : (ℕ → Bool) → Node → Bool) (before : List MatrixEntries) (at_start : Bool) (word : Multiplicity) (other : Term) (set : List ℕ) (tuples : List (List ℕ)) (nodes : List Node) (place : ℕ) (so_far row : List Node) : Type 0 where
  pub right : (h : ℕ) → IsGround ground old before h → past_in none_nested other no_depths ≤ h → (end : Term) → SayIn (read_in ground known h) old end tuples nodes
      → MarksSets (read_in ground known h) old old before set (λ lasso k E. EndHolds (world_of (read_in ground known h).scopes lasso) (names_of (read_in ground known h).atoms) k at_start word other E (λ s. Contains (drop (place + 1) tuples) s × InTerm (world_of (read_in ground known h).scopes lasso) no_bodies end (names_of (read_in ground known h).atoms) k s)) so_far
      → MarksSets (read_in ground known h) old new before set (λ lasso k E. EndHolds (world_of (read_in ground known h).scopes lasso) (names_of (read_in ground known h).atoms) k at_start word other E (λ s. Contains (drop place tuples) s × InTerm (world_of (read_in ground known h).scopes lasso) no_bodies end (names_of (read_in ground known h).atoms) k s)) row
