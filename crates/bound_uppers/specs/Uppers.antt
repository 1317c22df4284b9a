-- The upper bounds of the table: what it gives the sigs and fields of a model.
use Rattle.std.specs.Prelude.{◌≡◌, ◌<◌, ◌+◌, ℕ, List, [], ◌∷◌, length, All, Some, slice_get}
use Rattle.core_tuples.specs.Sets.{HasJust}
use Rattle.core_tree.specs.declared.model.Model.{Model}
use Rattle.core_tree.specs.declared.model.Sig.{Sig}
use Rattle.core_tree.specs.declared.model.Field.{Field}
use Rattle.core_tree.specs.Columns.{IsFew}
use Rattle.core_meaning.specs.declared.scopes.Scopes.{Scopes}
use Rattle.core_meaning.specs.Kept.{universe_size}
use Rattle.bound_uppers.specs.declared.table.Bound.{Bound}
use Rattle.bound_uppers.specs.Given.{InSigTable, InFieldTable}

-- a tuple of one number of the universe that a sig's upper bound has
abbrev pub InSigUpper : Model → Scopes → ℕ → Sig → List ℕ → Type 0
InSigUpper model scopes s d t = (a : ℕ) × (t ≡ a ∷ []) × InSigTable model scopes s d a × (a < universe_size scopes)

-- a tuple of numbers of the universe that a field's upper bound has
abbrev pub InFieldUpper : Model → Scopes → Field → List ℕ → Type 0
InFieldUpper model scopes f t = InFieldTable model scopes f t × All (λ a. a < universe_size scopes) t

-- the bound of each sig, and of each field whose type has its columns, has just those tuples
pub record AreUppers (model : Model) (scopes : Scopes) (relations : List Bound) : Type 0 where
  pub sigs : (s : ℕ) (d : Sig) → slice_get model.sigs s ≡ Some d → (b : Bound) × (slice_get relations s ≡ Some b) × HasJust b.upper 1 (InSigUpper model scopes s d)
  pub fields : (g : ℕ) (f : Field) → slice_get model.fields g ≡ Some f → IsFew f.columns → All (λ r. length r ≡ f.columns) f.rows → (b : Bound) × (slice_get relations (length model.sigs + g) ≡ Some b) × HasJust b.upper f.columns (InFieldUpper model scopes f)
