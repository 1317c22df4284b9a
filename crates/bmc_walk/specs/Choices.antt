-- Choices of atoms for variables.
use Rattle.std.specs.Prelude.{◌≡◌, ◌↔◌, ◌≤◌, ◌+◌, ℕ, Bool, List, [], ◌∷◌, ◌++◌, Contains, slice_get, Some, IsTrue}
use Rattle.gate_trait.specs.declared.node.Node.{Node}
use Rattle.core_tree.specs.Trees.{Variables, Claim, Binder}
use Rattle.core_tree.specs.Past.{no_depths, past_of, past_under}
use Rattle.core_meaning.specs.Sequence.{LassoValue}
use Rattle.core_meaning.specs.World.{World}
use Rattle.core_meaning.specs.Kept.{world_of}
use Rattle.core_meaning.specs.Meaning.{Names, with_name, atom, IsApart, InTerm, Picked, Holds}
use Rattle.core_meaning.specs.Called.{no_bodies}
use Rattle.gate_matrix.specs.Matrices.{MatrixEntries}
use Rattle.gate_temporal.specs.Rows.{row_value}
use Rattle.bmc_windows.specs.declared.frame.Stretch.{Stretch}
use Rattle.bmc_leaves.specs.Shown.{names_of, Reading, HasPlace, none_nested}
use Rattle.bmc_leaves.specs.Table.{Decodes}
use Rattle.bmc_places.specs.Gathered.{IsFound}
use Rattle.bmc_walk.specs.declared.walk.Known.{Known}
use Rattle.bmc_walk.specs.declared.walk.Ground.{Ground}
use Rattle.bmc_places.specs.declared.gathering.Choice.{Choice}
use Rattle.bmc_walk.specs.Variables.{SayIn}
use Rattle.bmc_walk.specs.Walked.{read_in, IsGround}

-- the tuple of the atoms that were chosen, which stand latest first
abbrev pub chosen_of : List ℕ → List ℕ
chosen_of [] = []
chosen_of (a ∷ earlier) = chosen_of earlier ++ a ∷ []

-- a fact at the places of windows, of the lassos that an assignment shows
abbrev pub AtPlaces : Reading → ((ℕ → Bool) → LassoValue → ℕ → ℕ → Type 0) → Type 0
AtPlaces r P = (loop k : ℕ) (s : Stretch) → HasPlace r.frame loop s k → (x : ℕ → Bool) (lasso : LassoValue) → Decodes r.bounds r.table x lasso → lasso.loop_start ≡ loop → P x lasso k (s.start + k)

-- the atoms are a choice at which the formula holds
abbrev pub PickedHere : World → Names → ℕ → List ℕ → Variables → Claim → List ℕ → Type 0
PickedHere w names k earlier vs f u = Picked w no_bodies vs (λ inner. Holds w no_bodies f inner k) names k earlier u

-- the first of them is one of those that are allowed
abbrev pub PickedFrom : World → Names → ℕ → List ℕ → Binder → Variables → Claim → (ℕ → Type 0) → List ℕ → Type 0
PickedFrom w names k earlier v rest f Allowed u =
    (a : ℕ) × (t : List ℕ) × (u ≡ a ∷ t) × Allowed a × InTerm w no_bodies v.bound names k (a ∷ []) × IsApart v.apart a earlier × PickedHere w (with_name names v.name (atom a)) k (a ∷ earlier) rest f t

-- choices are added: the tuples that are found in them are those of the earlier atoms and of others, where the
-- row holds and the others have the property
abbrev pub FindThose : Reading → ((ℕ → Bool) → Node → Bool) → ((ℕ → Bool) → Node → Bool) → List Choice → List ℕ → List Node → (LassoValue → ℕ → List ℕ → Type 0) → Type 0
FindThose r old new more earlier there Those =
    AtPlaces r (λ x lasso k i. (t : List ℕ) → IsFound (new x) more i t ↔ ((u : List ℕ) × (t ≡ chosen_of earlier ++ u) × IsTrue (row_value (old x) there i) × Those lasso k u))

-- of all choices for the variables at which the formula holds
pub record FindChoices (ground : Ground) (known : Known) (earlier : List ℕ) (old new : (ℕ → Bool) → Node → Bool) (before : List MatrixEntries) (vs : Variables) (f : Claim) (there : List Node) (already now : List Choice) : Type 0 where
  pub more : List Choice
  pub is : now ≡ already ++ more
  pub right : (h : ℕ) → IsGround ground old before h → past_under none_nested vs no_depths (λ d. past_of none_nested f d) ≤ h
      → FindThose (read_in ground known h) old new more earlier there (λ lasso k u. PickedHere (world_of (read_in ground known h).scopes lasso) (names_of (read_in ground known h).atoms) k earlier vs f u)

-- the same where the first variable stands for an atom of one of these tuples
pub record FindAtoms (ground : Ground) (known : Known) (earlier : List ℕ) (old new : (ℕ → Bool) → Node → Bool) (before : List MatrixEntries) (v : Binder) (rest : Variables) (f : Claim) (tuples : List (List ℕ)) (nodes there : List Node) (already now : List Choice) : Type 0 where
  pub more : List Choice
  pub is : now ≡ already ++ more
  pub right : (h : ℕ) → IsGround ground old before h → past_under none_nested rest no_depths (λ d. past_of none_nested f d) ≤ h → SayIn (read_in ground known h) old v.bound tuples nodes
      → FindThose (read_in ground known h) old new more earlier there (λ lasso k u. PickedFrom (world_of (read_in ground known h).scopes lasso) (names_of (read_in ground known h).atoms) k earlier v rest f (λ a. Contains tuples (a ∷ [])) u)

-- the same for the tuple at a place
pub record FindMore (ground : Ground) (known : Known) (earlier : List ℕ) (old new : (ℕ → Bool) → Node → Bool) (before : List MatrixEntries) (v : Binder) (rest : Variables) (f : Claim) (tuples : List (List ℕ)) (nodes : List Node) (place : ℕ) (there : List Node) (already now : List Choice) : Type 0 where
  pub more : List Choice
  pub is : now ≡ already ++ more
  pub right : (h : ℕ) → IsGround ground old before h → past_under none_nested rest no_depths (λ d. past_of none_nested f d) ≤ h → SayIn (read_in ground known h) old v.bound tuples nodes
      → FindThose (read_in ground known h) old new more earlier there (λ lasso k u. PickedFrom (world_of (read_in ground known h).scopes lasso) (names_of (read_in ground known h).atoms) k earlier v rest f (λ a. slice_get tuples place ≡ Some (a ∷ [])) u)
