-- What a walk along an expression or a formula leaves.
use Rattle.std.specs.Prelude.{◌≡◌, ◌↔◌, ◌≤◌, ◌<◌, ◌+◌, ℕ, ℤ, Bool, List, [], ◌∷◌, length, slice_get, Some, IsTrue, All}
use Rattle.gate_trait.specs.declared.node.Node.{Node}
use Rattle.core_tree.specs.declared.operators.RelationOp.{RelationOp}
use Rattle.core_tree.specs.Trees.{Term, Claim, Claims, combine, every, more_claims, term_of}
use Rattle.core_tree.specs.Past.{no_depths, past_in, past_of}
use Rattle.core_free.specs.Used.{used_in}
use Rattle.core_meaning.specs.Sequence.{LassoValue}
use Rattle.core_meaning.specs.Kept.{world_of}
use Rattle.core_meaning.specs.World.{atom_of}
use Rattle.core_meaning.specs.Operators.{IsNumber}
use Rattle.core_meaning.specs.Meaning.{InTerm}
use Rattle.core_meaning.specs.Called.{no_bodies}
use Rattle.gate_matrix.specs.Matrices.{MatrixEntries}
use Rattle.gate_integers.specs.Numbers.{signed}
use Rattle.gate_temporal.specs.Rows.{row_value}
use Rattle.bmc_windows.specs.declared.frame.Stretch.{Stretch}
use Rattle.bmc_leaves.specs.Shown.{Atoms, names_of, Reading, under, none_nested, IsReading, HasPlace, IsRight, AreRight, AreKept}
use Rattle.bmc_leaves.specs.Table.{Decodes}
use Rattle.bmc_leaves.specs.Relations.{reading_of}
use Rattle.bmc_walk.specs.declared.walk.Known.{Known}
use Rattle.bmc_walk.specs.declared.walk.Known.TheVariants.{Nothing, Atom'}
use Rattle.bmc_walk.specs.declared.walk.Made.{Made}
use Rattle.bmc_walk.specs.declared.walk.Ready.{Ready}
use Rattle.bmc_walk.specs.declared.walk.Ready.TheVariants as ready
use Rattle.bmc_walk.specs.declared.walk.Ground.{Ground}

-- for which atoms the names stand
abbrev pub atoms_of : Known → Atoms
atoms_of Nothing = []
atoms_of (Atom' x a p rest) = (x, a) ∷ atoms_of rest

-- how expressions and formulas are read there
abbrev pub read_in : Ground → Known → ℕ → Reading
read_in ground known h = under (reading_of ground.setting h) (atoms_of known)

-- a row is true at the places of each window where a fact holds in the lassos whose loop begins there
pub record Marks (r : Reading) (value : (ℕ → Bool) → Node → Bool) (P : LassoValue → ℕ → Type 0) (row : List Node) : Type 0 where
  pub inside : (loop k : ℕ) (s : Stretch) → HasPlace r.frame loop s k → s.start + k < length row
  pub holds : (loop k : ℕ) (s : Stretch) → HasPlace r.frame loop s k → (x : ℕ → Bool) (lasso : LassoValue) → Decodes r.bounds r.table x lasso → lasso.loop_start ≡ loop → IsTrue (row_value (value x) row (s.start + k)) ↔ P lasso k

-- the integer that stands at a place of a row of numbers
abbrev pub StandsThere : List (List Node) → List ℕ → ℕ → List Node → Type 0
StandsThere integers row i b = (k : ℕ) × (slice_get row i ≡ Some k) × (slice_get integers k ≡ Some b)

-- at each place of each window stands an integer of the scopes' width, which is one that is given for the position
abbrev pub HaveIntegers : Reading → ((ℕ → Bool) → Node → Bool) → List (List Node) → (LassoValue → ℕ → ℤ → Type 0) → List ℕ → Type 0
HaveIntegers r value integers Is numbers =
    (loop k : ℕ) (s : Stretch) → HasPlace r.frame loop s k → (b : List Node) × StandsThere integers numbers (s.start + k) b × (length b ≡ r.scopes.bits)
    × ((x : ℕ → Bool) (lasso : LassoValue) → Decodes r.bounds r.table x lasso → lasso.loop_start ≡ loop → Is lasso k (signed (value x) b))

-- the integers for which an expression stands in an integer place
pub record AreNumbers (r : Reading) (value : (ℕ → Bool) → Node → Bool) (integers : List (List Node)) (e : Term) (numbers : List ℕ) : Type 0 where
  pub integers_are : HaveIntegers r value integers (λ lasso k n. IsNumber (world_of r.scopes lasso) (InTerm (world_of r.scopes lasso) no_bodies e (names_of r.atoms) k) n) numbers

-- the integers whose numbers alone are in an expression
pub record AreSingles (r : Reading) (value : (ℕ → Bool) → Node → Bool) (integers : List (List Node)) (e : Term) (numbers : List ℕ) : Type 0 where
  pub integers_are : HaveIntegers r value integers (λ lasso k z. (t : List ℕ) → (t ≡ atom_of (world_of r.scopes lasso) z ∷ []) ↔ InTerm (world_of r.scopes lasso) no_bodies e (names_of r.atoms) k t) numbers

-- sets that were built where names stand for these atoms are right, where past operators nest so deep
pub record IsReady (r : Reading) (value : (ℕ → Bool) → Node → Bool) (matrices : List MatrixEntries) (h : ℕ) (known : Known) (made : Made) : Type 0 where
  pub names : made.names.items ≡ used_in (term_of made.expr.now)
  pub right : past_in none_nested (term_of made.expr.now) no_depths ≤ h → AreRight (under r (atoms_of known)) value matrices (term_of made.expr.now) made.numbers.items

-- all that was built before
abbrev pub AreReady : Reading → ((ℕ → Bool) → Node → Bool) → List MatrixEntries → ℕ → Ready → Type 0
AreReady r value matrices h ready.Nothing = Unit {0}
AreReady r value matrices h (ready.Sets' made there p rest) = All (IsReady r value matrices h there.now) made.now.items × AreReady r value matrices h rest

-- the windows are long enough for past operators that nest so deep, and the sets without parts and what was built
-- before are right
pub record IsGround (ground : Ground) (value : (ℕ → Bool) → Node → Bool) (matrices : List MatrixEntries) (h : ℕ) : Type 0 where
  pub reading : IsReading (reading_of ground.setting h)
  pub kept : AreKept (reading_of ground.setting h) value matrices ground.kept.now.items
  pub ready : AreReady (reading_of ground.setting h) value matrices h ground.ready.now

-- the sets are those of the expression
pub record HasSets (ground : Ground) (known : Known) (old new : (ℕ → Bool) → Node → Bool) (before after : List MatrixEntries) (e : Term) (numbers : List ℕ) : Type 0 where
  pub right : (h : ℕ) → IsGround ground old before h → past_in none_nested e no_depths ≤ h → AreRight (read_in ground known h) new after e numbers

-- the sets are those of an operator between an expression, of which the first sets are, and another
pub record AddsOperand (ground : Ground) (known : Known) (old new : (ℕ → Bool) → Node → Bool) (before after : List MatrixEntries) (op : RelationOp) (f : Term) (first numbers : List ℕ) : Type 0 where
  pub right : (h : ℕ) → IsGround ground old before h → past_in none_nested f no_depths ≤ h → (e : Term) → AreRight (read_in ground known h) old before e first → AreRight (read_in ground known h) new after (combine op e f) numbers

-- the integers are those for which the expression stands
pub record HasNumbers (ground : Ground) (known : Known) (old new : (ℕ → Bool) → Node → Bool) (before : List MatrixEntries) (integers : List (List Node)) (e : Term) (numbers : List ℕ) : Type 0 where
  pub right : (h : ℕ) → IsGround ground old before h → past_in none_nested e no_depths ≤ h → AreNumbers (read_in ground known h) new integers e numbers

-- the integers are those whose numbers alone are in the expression
pub record HasSingles (ground : Ground) (known : Known) (old new : (ℕ → Bool) → Node → Bool) (before : List MatrixEntries) (integers : List (List Node)) (e : Term) (numbers : List ℕ) : Type 0 where
  pub right : (h : ℕ) → IsGround ground old before h → past_in none_nested e no_depths ≤ h → AreSingles (read_in ground known h) new integers e numbers

-- the row says where the formula holds
pub record HasRow (ground : Ground) (known : Known) (old new : (ℕ → Bool) → Node → Bool) (before : List MatrixEntries) (f : Claim) (row : List Node) : Type 0 where
  pub right : (h : ℕ) → IsGround ground old before h → past_of none_nested f no_depths ≤ h → IsRight (read_in ground known h) new f row

-- the row says where a formula and those of a list hold, if the other row says it of those of the list
pub record AddsFront (ground : Ground) (known : Known) (old new : (ℕ → Bool) → Node → Bool) (before : List MatrixEntries) (f : Claim) (so_far row : List Node) : Type 0 where
  pub right : (h : ℕ) → IsGround ground old before h → past_of none_nested f no_depths ≤ h → (gs : Claims) → IsRight (read_in ground known h) old (every gs) so_far → IsRight (read_in ground known h) new (every (more_claims f gs)) row
