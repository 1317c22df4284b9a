-- What holds for all atoms that variables may stand for.
use Rattle.std.specs.Prelude.{◌≡◌, ◌↔◌, ◌≤◌, ◌+◌, ◌*◌, ℕ, Bool, List, [], ◌∷◌, take, length, Contains, slice_get, Some, IsTrue}
use Rattle.gate_trait.specs.declared.node.Node.{Node}
use Rattle.core_tree.specs.Trees.{Term, Variables, Claim, Binder}
use Rattle.core_tree.specs.Past.{no_depths, past_of, past_under}
use Rattle.core_meaning.specs.Sequence.{LassoValue}
use Rattle.core_meaning.specs.World.{World}
use Rattle.core_meaning.specs.Kept.{world_of}
use Rattle.core_meaning.specs.Meaning.{Names, with_name, atom, IsApart, InTerm, ForEach, Holds}
use Rattle.core_meaning.specs.Called.{no_bodies}
use Rattle.gate_matrix.specs.Matrices.{MatrixEntries}
use Rattle.gate_temporal.specs.Rows.{row_value}
use Rattle.bmc_windows.specs.declared.frame.Stretch.{Stretch}
use Rattle.bmc_leaves.specs.Shown.{names_of, Reading, HasPlace, none_nested}
use Rattle.bmc_leaves.specs.Table.{Decodes}
use Rattle.bmc_walk.specs.declared.walk.Known.{Known}
use Rattle.bmc_walk.specs.declared.walk.Ground.{Ground}
use Rattle.bmc_walk.specs.declared.variables.Earlier.{Earlier}
use Rattle.bmc_walk.specs.declared.variables.Earlier.TheVariants.{Start, Then'}
use Rattle.bmc_walk.specs.Walked.{read_in, IsGround, Marks}

-- the earlier atoms, the latest first
abbrev pub earlier_list : Earlier → List ℕ
earlier_list Start = []
earlier_list (Then' a p rest) = a ∷ earlier_list rest

-- the formula holds for all atoms that the variables may stand for
abbrev pub EachHolds : World → Names → ℕ → List ℕ → Variables → Claim → Type 0
EachHolds w names k earlier vs f = ForEach w no_bodies vs (λ inner. Holds w no_bodies f inner k) names k earlier

-- the same where the first variable stands for one of these atoms
abbrev pub AtomsHold : World → Names → ℕ → List ℕ → Binder → Variables → Claim → List (List ℕ) → Type 0
AtomsHold w names k earlier v rest f tuples =
    (a : ℕ) → Contains tuples (a ∷ []) → InTerm w no_bodies v.bound names k (a ∷ []) → IsApart v.apart a earlier → EachHolds w (with_name names v.name (atom a)) k (a ∷ earlier) rest f

-- the row says for each of the tuples where it is in the expression
pub record SayIn (r : Reading) (value : (ℕ → Bool) → Node → Bool) (e : Term) (tuples : List (List ℕ)) (nodes : List Node) : Type 0 where
  pub values : (loop k : ℕ) (s : Stretch) → HasPlace r.frame loop s k → (x : ℕ → Bool) (lasso : LassoValue) → Decodes r.bounds r.table x lasso → lasso.loop_start ≡ loop → (j : ℕ) (t : List ℕ) → slice_get tuples j ≡ Some t
      → IsTrue (row_value (value x) nodes (j * length r.frame.shown.items + (s.start + k))) ↔ InTerm (world_of r.scopes lasso) no_bodies e (names_of r.atoms) k t
  pub all : (loop k : ℕ) (s : Stretch) → HasPlace r.frame loop s k → (x : ℕ → Bool) (lasso : LassoValue) → Decodes r.bounds r.table x lasso → lasso.loop_start ≡ loop → (t : List ℕ) → InTerm (world_of r.scopes lasso) no_bodies e (names_of r.atoms) k t → Contains tuples t

-- the row says where the formula holds for all atoms
pub record HasEach (ground : Ground) (known : Known) (earlier : List ℕ) (old new : (ℕ → Bool) → Node → Bool) (before : List MatrixEntries) (vs : Variables) (f : Claim) (row : List Node) : Type 0 where
  pub right : (h : ℕ) → IsGround ground old before h → past_under none_nested vs no_depths (λ d. past_of none_nested f d) ≤ h
      → Marks (read_in ground known h) new (λ lasso k. EachHolds (world_of (read_in ground known h).scopes lasso) (names_of (read_in ground known h).atoms) k earlier vs f) row

-- the same for the atoms of tuples
abbrev pub HeldTo : Reading → ((ℕ → Bool) → Node → Bool) → List ℕ → Binder → Variables → Claim → List (List ℕ) → List Node → Type 0
HeldTo r value earlier v rest f tuples row = Marks r value (λ lasso k. AtomsHold (world_of r.scopes lasso) (names_of r.atoms) k earlier v rest f tuples) row

-- the row says where the formula holds for all of these atoms that are in the bound
pub record HasAtoms (ground : Ground) (known : Known) (earlier : List ℕ) (old new : (ℕ → Bool) → Node → Bool) (before : List MatrixEntries) (v : Binder) (rest : Variables) (f : Claim) (tuples : List (List ℕ)) (nodes row : List Node) : Type 0 where
  pub right : (h : ℕ) → IsGround ground old before h → past_under none_nested rest no_depths (λ d. past_of none_nested f d) ≤ h → SayIn (read_in ground known h) old v.bound tuples nodes → HeldTo (read_in ground known h) new earlier v rest f tuples row

-- the same for one tuple more than the first so many
pub record AddsAtom (ground : Ground) (known : Known) (earlier : List ℕ) (old new : (ℕ → Bool) → Node → Bool) (before : List MatrixEntries) (v : Binder) (rest : Variables) (f : Claim) (tuples : List (List ℕ)) (nodes : List Node) (place : ℕ) (so_far row : List Node) : Type 0 where
  pub right : (h : ℕ) → IsGround ground old before h → past_under none_nested rest no_depths (λ d. past_of none_nested f d) ≤ h → SayIn (read_in ground known h) old v.bound tuples nodes → HeldTo (read_in ground known h) old earlier v rest f (take place tuples) so_far
      → HeldTo (read_in ground known h) new earlier v rest f (take (place + 1) tuples) row
