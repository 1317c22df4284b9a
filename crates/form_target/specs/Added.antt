-- Formulas that are added for declarations.
use Rattle.std.specs.Prelude.{◌≡◌, ◌↔◌, ℕ, List, length, All, Some, slice_get}
use Rattle.core_tree.specs.declared.model.Model.{Model}
use Rattle.core_tree.specs.declared.model.Field.{Field}
use Rattle.core_tree.specs.declared.model.FieldBound.{FieldBound}
use Rattle.core_tree.specs.declared.tree.Formula.{Formula}
use Rattle.core_tree.specs.Trees.{claim_of}
use Rattle.core_tree.specs.Columns.{no_columns}
use Rattle.core_tree.specs.Models.{IsModel, IsRightFormula}
use Rattle.core_meaning.specs.World.{World}
use Rattle.core_meaning.specs.Meaning.{Holds, no_names}
use Rattle.core_meaning.specs.Called.{bodies_of}

module _ (model : Model) where
  -- a world for the model: it knows of each sig
  abbrev pub IsWorldOf : World → Type 0
  IsWorldOf w = length w.top ≡ length model.sigs

  -- the formula holds at a position, without names
  abbrev pub HoldsIn : World → ℕ → Formula → Type 0
  HoldsIn w i f = Holds w (bodies_of w model.bodies) (claim_of f) no_names i

  -- the formula is one of the model, without free names
  abbrev pub IsClosed : Formula → Type 0
  IsClosed f = IsRightFormula model (claim_of f) no_columns

  -- the new formulas all hold at a position exactly where the old ones do and what is asked is so
  pub record Adds (old new : List Formula) (Asked : World → ℕ → Type 0) : Type 0 where
    pub same : (w : World) (i : ℕ) → IsWorldOf w → All (HoldsIn w i) new ↔ (All (HoldsIn w i) old × Asked w i)
    pub closed : IsModel model → All IsClosed old → All IsClosed new

  -- the field k is one of sig s, and this is what is said of it
  abbrev pub IsDeclaredField : ℕ → ℕ → FieldBound → Type 0
  IsDeclaredField k s d = (f : Field) × (slice_get model.fields k ≡ Some f) × (f.owner ≡ Some s) × (f.declared ≡ Some d)
