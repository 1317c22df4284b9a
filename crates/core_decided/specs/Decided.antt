-- What is decided and what is listed, and the laws that on a lasso the meaning of the language is.
use Rattle.std.specs.Prelude.{◌≡◌, ◌⊎◌, ◌↔◌, ℕ, ◌<◌, List, Contains, Some, IfSome, slice_get}
use Rattle.core_tree.specs.declared.model.Model.{Model}
use Rattle.core_tree.specs.declared.model.Sig.{Sig}
use Rattle.core_tree.specs.declared.model.Field.{Field}
use Rattle.core_tree.specs.declared.model.FieldBound.{FieldBound}
use Rattle.core_tree.specs.Trees.{Term, Claim, term_of, claim_of}
use Rattle.core_tree.specs.Past.{Depths, no_depths, with_depth, past_in, past_of, body_depths}
use Rattle.core_meaning.specs.declared.scopes.Scopes.{Scopes}
use Rattle.core_meaning.specs.Sequence.{LassoValue}
use Rattle.core_meaning.specs.Meaning.{no_names}
use Rattle.core_meaning.specs.Satisfied.{HoldsAt, InTermAt, DeclaresAt}
use Rattle.core_window.specs.Repeats.{uncounted, HasLoop}

-- it is so, or it is not
abbrev pub IsDecided : Type 0 → Type 0
IsDecided P = P ⊎ (P → ⊥)

-- a set, of tuples or of others, has a list of just its members
abbrev pub IsListed : {X : Type 0} → (X → Type 0) → Type 0
IsListed {X} In = (xs : List X) × ((x : X) → In x ↔ Contains xs x)

-- every formula of a model is true or false at each position of a lasso that has a loop, where it nests fewer past operators than
-- are counted, those of the bodies that it calls among them
abbrev pub FormulasAreDecided : Type 0
FormulasAreDecided =
    (model : Model) (scopes : Scopes) (lasso : LassoValue) (f : Claim) (i : ℕ) → HasLoop lasso →
    past_of (body_depths model.bodies) f no_depths < uncounted → IsDecided (HoldsAt model scopes lasso f no_names i)

-- every expression of a model has a list of just its tuples at each position of such a lasso, where it nests as few
abbrev pub ExpressionsAreListed : Type 0
ExpressionsAreListed =
    (model : Model) (scopes : Scopes) (lasso : LassoValue) (e : Term) (i : ℕ) → HasLoop lasso →
    past_in (body_depths model.bodies) e no_depths < uncounted → IsListed (InTermAt model scopes lasso e no_names i)

-- `this` is an atom, which nests no past operator
abbrev pub this_depths : Depths
this_depths = with_depth no_depths 0 0

-- the appended facts of sigs and the bounds of fields nest fewer past operators than are counted
pub record DeclaresFewPast (model : Model) : Type 0 where
  pub facts : (s : ℕ) (d : Sig) → slice_get model.sigs s ≡ Some d → IfSome d.appended (λ f. past_of (body_depths model.bodies) (claim_of f) this_depths < uncounted)
  pub bounds : (k : ℕ) (f : Field) (d : FieldBound) → slice_get model.fields k ≡ Some f → f.declared ≡ Some d → past_in (body_depths model.bodies) (term_of d.bound.expr) this_depths < uncounted

-- where that is so, the declarations of a model hold at each position of such a lasso or don't
abbrev pub DeclarationsAreDecided : Type 0
DeclarationsAreDecided =
    (model : Model) (scopes : Scopes) (lasso : LassoValue) (i : ℕ) → HasLoop lasso → DeclaresFewPast model → IsDecided (DeclaresAt model scopes lasso i)
