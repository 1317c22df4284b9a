-- What declarations say: formulas and expressions where no name is in scope, or `this` alone; and that their readings are right.
use Rattle.std.specs.Prelude.{◌≡◌, ℕ, ◌==◌, Bool, false, List, [], ◌∷◌, codes, Option, Some, None, slice_get}
use Rattle.base_types.specs.declared.place.Position.{Position}
use Rattle.syntax_tree.specs.declared.expr.Expr.{Expr}
use Rattle.syntax_tree.specs.declared.module.Bound.{Bound}
use Rattle.core_tree.specs.declared.model.Model.{Model}
use Rattle.core_tree.specs.Trees.{Claim, Term}
use Rattle.resolve_picks.specs.declared.picks.Picks.{Picks}
use Rattle.resolve_picks.specs.declared.target.Target.{Target}
use Rattle.resolve_picks.specs.Picks.{picked_in}
use Rattle.resolve_types.specs.Types.{product_of}
use Rattle.resolve_types.specs.declared.columns.Columns.{Columns}
use Rattle.resolve_readings.specs.declared.meaning.Meaning.{Meaning}
use Rattle.resolve_readings.specs.declared.meaning.What.{What}
use Rattle.resolve_readings.specs.declared.meaning.What.TheVariants as what
use Rattle.resolve_names.specs.declared.table.Namespace.{Namespace}
use Rattle.resolve_rules.specs.Candidates.{set_of}
use Rattle.resolve_said.specs.declared.place.OwnField.{OwnField}
use Rattle.resolve_said.specs.Said.{Standing, SaysFormula, SaysSet}
use Rattle.resolve_read.specs.declared.types.Ground.{Ground}
use Rattle.resolve_read.specs.declared.types.Ground.TheVariants as ground
use Rattle.resolve_read.specs.declared.types.Readings.{Readings}
use Rattle.resolve_read.specs.declared.types.Types.{Types}
use Rattle.resolve_read.specs.At.{At, Scope, with_name}
use Rattle.resolve_readings.specs.declared.part.RootPlace.TheVariants as place
use Rattle.resolve_read.specs.Reads.{IsRead, BoundReads, RootReads}

-- what the names of an instance, or of a sig, are taken to stand for
abbrev pub picks_of : Option Picks → Position → Option Target
picks_of None p = None
picks_of (Some picks) p = picked_in picks p

-- the type of a sig
abbrev pub set_in : What → Option Columns
set_in (what.Set c) = Some c
set_in _ = None

abbrev pub columns_in : Option Meaning → Option Columns
columns_in None = None
columns_in (Some m) = set_in m.what

abbrev pub sig_type : Types → ℕ → Option Columns
sig_type types s = columns_in (slice_get types.sigs s)

abbrev pub no_type : Columns
no_type = record { count = 0; rows = [] }

-- whether an instance is that of the integers that are opened implicitly
abbrev pub is_integer : Option ℕ → ℕ → Bool
is_integer None k = false
is_integer (Some j) k = j == k

-- ------------------------------------------------------------------ where something stands

-- in instance k, with these own fields, where names are taken to stand for these
abbrev pub standing : List Namespace → Model → ℕ → List OwnField → (Position → Option Target) → Standing
standing scopes model k own picks = record { scopes = scopes; sigs = model.sigs; bodies = model.bodies; instance = k; own = own; picks = picks }

-- the same for the reading of roots, with the type of `this`
abbrev pub read_at : List Namespace → Types → ℕ → List OwnField → Columns → (ground : Ground) → (Position → Option Target) → At
read_at scopes types k own this g picks = record { scopes = scopes; types = types; instance = k; own = own; this = this; ground = g; picks = picks }

-- in instance k, outside of all sigs
abbrev pub outside : List Namespace → Model → Readings → ℕ → Standing
outside scopes model readings k = standing scopes model k [] (picks_of (slice_get readings.of_instances k))

abbrev pub read_outside : List Namespace → Readings → ℕ → (ground : Ground) → At
read_outside scopes readings k g = read_at scopes readings.types k [] no_type g (picks_of (slice_get readings.of_instances k))

-- in sig s of instance k, with these own fields
abbrev pub inside : List Namespace → Model → Readings → (k s : ℕ) → List OwnField → Standing
inside scopes model readings k s own = standing scopes model k own (picks_of (slice_get readings.of_sigs s))

abbrev pub read_inside : List Namespace → Readings → (k s : ℕ) → List OwnField → Columns → (ground : Ground) → At
read_inside scopes readings k s own this g = read_at scopes readings.types k own this g (picks_of (slice_get readings.of_sigs s))

-- `this` of that type
abbrev pub this_scope : Columns → Scope
this_scope c = with_name [] (codes "this") c

-- ------------------------------------------------------------------ what is said

-- a formula, where no name is in scope
pub record SaysAlone (scopes : List Namespace) (model : Model) (readings : Readings) (k : ℕ) (tree : Expr) (claim : Claim) : Type 0 where
  pub said : SaysFormula (outside scopes model readings k) [] tree claim
  pub read : IsRead (read_outside scopes readings k ground.Anywhere) [] tree

-- an expression as the value of a `let`, where no name is in scope, by these picks of its own
pub record SaysValue (scopes : List Namespace) (model : Model) (types : Types) (picks : Picks) (k : ℕ) (tree : Expr) (term : Term) : Type 0 where
  pub said : SaysSet (standing scopes model k [] (picked_in picks)) [] tree term
  pub meaning : Meaning
  pub read : RootReads (read_at scopes types k [] no_type ground.Anywhere (picked_in picks)) [] place.Value tree meaning

-- a formula in sig s, where `this` is in scope
pub record SaysOfThis (scopes : List Namespace) (model : Model) (readings : Readings) (k s : ℕ) (own : List OwnField) (tree : Expr) (claim : Claim) : Type 0 where
  pub said : SaysFormula (inside scopes model readings k s own) (codes "this" ∷ []) tree claim
  pub this : Columns
  pub typed : sig_type readings.types s ≡ Some this
  pub read : IsRead (read_inside scopes readings k s own this ground.Anywhere) (this_scope this) tree

-- the bound of a field of sig s, where `this` is in scope, and its type
pub record SaysBound (scopes : List Namespace) (model : Model) (readings : Readings) (k s : ℕ) (own : List OwnField) (b : Bound) (term : Term) (bound : Columns) : Type 0 where
  pub said : SaysSet (inside scopes model readings k s own) (codes "this" ∷ []) b.tree term
  pub this : Columns
  pub typed : sig_type readings.types s ≡ Some this
  pub read : BoundReads (read_inside scopes readings k s own this ground.FieldBound) (this_scope this) b.word b.tree bound

-- ------------------------------------------------------------------ what is known of types

-- sig n of instance k means a set
abbrev pub IsSigTyped : Readings → Option ℕ → (k n : ℕ) → Type 0
IsSigTyped readings integers k n = (c : Columns) × (slice_get readings.types.sigs n ≡ Some (set_of c (is_integer integers k)))

-- field n of sig s in instance k, whose bound has this type, has the product of the two types
abbrev pub IsFieldTyped : Readings → Option ℕ → (k s n : ℕ) → Columns → Type 0
IsFieldTyped readings integers k s n bound =
    (this : Columns) × (sig_type readings.types s ≡ Some this) ×
    (slice_get readings.types.fields n ≡ Some (set_of (product_of readings.types.typing.lines this bound) (is_integer integers k)))
