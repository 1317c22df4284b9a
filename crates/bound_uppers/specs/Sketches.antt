-- Relations before their tuples are made.
use Rattle.std.specs.Prelude.{◌≡◌, ◌<◌, ◌≤◌, ◌+◌, ◌-◌, ℕ, if◌then◌else◌, List, [], ◌∷◌, length, All, Option, Some, None, IfSome, is_some, get_or, slice_get}
use Rattle.core_tree.specs.declared.model.Model.{Model}
use Rattle.core_tree.specs.declared.model.Sig.{Sig}
use Rattle.core_tree.specs.declared.model.Field.{Field}
use Rattle.core_tree.specs.Types.{by_parent}
use Rattle.core_tree.specs.Columns.{IsFew}
use Rattle.core_tuples.specs.Sets.{HasJust}
use Rattle.bound_uppers.specs.declared.table.Bound.{Bound}
use Rattle.bound_uppers.specs.declared.numbers.AtomRanges.{AtomRanges}
use Rattle.bound_uppers.specs.declared.uppers.Sketch.{Sketch}
use Rattle.bound_uppers.specs.Kinds.{HasRows, rows_kinds_of, sig_kinds_of}
use Rattle.bound_uppers.specs.declared.given.AtomSets.{AtomSets}
use Rattle.bound_uppers.specs.AtomSets.{InRows}

-- where the numbers of a sig begin; behind all atoms where there is none
abbrev pub first_in : AtomRanges → ℕ → ℕ
first_in spans s = (get_or spans.sigs.items s spans.integers).first

-- the atom of a literal's sig, which has this number
abbrev pub literal_in : AtomRanges → ℕ → Sig → Option ℕ
literal_in spans s d = if is_some d.origin then None else by_parent {X = Option ℕ} None (λ p. Some (first_in spans p + (s - p - 1))) d.kind

-- a sketch has from one to nine columns, as its rows do, and one column where it has an atom
pub record IsRightSketch (k : Sketch) : Type 0 where
  pub least : 1 ≤ k.arity
  pub most : k.arity ≤ 9
  pub rows : All (λ r. length r ≡ k.arity) k.rows.items
  pub atom : IfSome k.atom (λ a. k.arity ≡ 1)

-- a tuple of one of its rows, and of its atom where it has one
abbrev pub InSketch : AtomSets → Sketch → List ℕ → Type 0
InSketch sets k t = InRows sets k.rows.items t × IfSome k.atom (λ a. t ≡ a ∷ [])

-- the sketch of a sig, which has this number
pub record IsSigSketch (sigs : List Sig) (ups : List ℕ) (spans : AtomRanges) (s : ℕ) (d : Sig) (k : Sketch) : Type 0 where
  pub columns : k.arity ≡ 1
  pub rows : HasRows k.rows.items (sig_kinds_of sigs ups (length sigs) s)
  pub atom : k.atom ≡ literal_in spans s d

-- the sketch of a field whose rows have its columns
pub record IsFieldSketch (ups : List ℕ) (f : Field) (k : Sketch) : Type 0 where
  pub columns : k.arity ≡ f.columns
  pub rows : HasRows k.rows.items (rows_kinds_of ups f.rows)
  pub atom : k.atom ≡ None

abbrev pub MayField : List ℕ → Field → Sketch → Type 0
MayField ups f k = IsFew f.columns → All (λ r. length r ≡ f.columns) f.rows → IsFieldSketch ups f k

-- so many sigs have their sketches, in order
abbrev pub AreSigSketches : List Sig → List ℕ → AtomRanges → ℕ → List Sketch → Type 0
AreSigSketches sigs ups spans n all = (s : ℕ) (d : Sig) → s < n → slice_get sigs s ≡ Some d → (k : Sketch) × (slice_get all s ≡ Some k) × IsSigSketch sigs ups spans s d k

-- so many fields have theirs, behind those of so many sigs
abbrev pub AreFieldSketches : List ℕ → List Field → ℕ → ℕ → List Sketch → Type 0
AreFieldSketches ups fields sigs n all = (g : ℕ) (f : Field) → g < n → slice_get fields g ≡ Some f → (k : Sketch) × (slice_get all (sigs + g) ≡ Some k) × MayField ups f k

-- the sketches of a model
pub record AreSketches (model : Model) (ups : List ℕ) (spans : AtomRanges) (all : List Sketch) : Type 0 where
  pub right : All IsRightSketch all
  pub sigs : AreSigSketches model.sigs ups spans (length model.sigs) all
  pub fields : AreFieldSketches ups model.fields (length model.sigs) (length model.fields) all

-- the bound of a sketch
pub record IsBoundOf (sets : AtomSets) (k : Sketch) (b : Bound) : Type 0 where
  pub fixed : b.fixed ≡ k.fixed
  pub upper : HasJust b.upper k.arity (InSketch sets k)

-- the bound of each sketch has its tuples
abbrev pub HasUppers : AtomSets → List Sketch → List Bound → Type 0
HasUppers sets all relations = (r : ℕ) (k : Sketch) → slice_get all r ≡ Some k → (b : Bound) × (slice_get relations r ≡ Some b) × HasJust b.upper k.arity (InSketch sets k)
