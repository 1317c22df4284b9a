-- What a resolved model keeps, apart from which rows each field's type has.
use Rattle.std.specs.Prelude.{◌≡◌, ◌↔◌, ℕ, suc, ◌+◌, ◌^◌, ◌<◌, List, [], ◌∷◌, length, All, Option, Some, None, IsSome, IfSome, slice_get, slice_index}
use Rattle.core_tree.specs.declared.model.Model.{Model}
use Rattle.core_tree.specs.declared.model.Sig.{Sig}
use Rattle.core_tree.specs.declared.model.Column.{Column}
use Rattle.core_tree.specs.declared.model.Column.TheVariants.{Sig as SigColumn, Int as IntColumn}
use Rattle.core_tree.specs.declared.model.Field.{Field}
use Rattle.core_tree.specs.declared.model.FieldBound.{FieldBound}
use Rattle.core_tree.specs.declared.model.Fact.{Fact}
use Rattle.core_tree.specs.declared.model.Assert.{Assert}
use Rattle.core_tree.specs.declared.model.Command.{Command}
use Rattle.core_tree.specs.declared.model.Parameter.{Parameter}
use Rattle.core_tree.specs.declared.operators.Multiplicity.TheVariants.{One}
use Rattle.core_tree.specs.Trees.{Term, term_of, claim_of}
use Rattle.core_tree.specs.Columns.{no_columns, columns_in, IsFew, IsRightTerm}
use Rattle.core_tree.specs.Models.{AnyField, AnyBody, IsAncestor, IsParent, parents_of, shapes_of, this_column, IsRightSig, IsRightBody, IsRightBound, IsRightFormula, HasAtomParameters}
use Rattle.resolve_check.specs.declared.shape.Shape.{Shape}
use Rattle.resolve_check.specs.Fits.{order_of}

-- a field's owner is there, where it has one, and its bound has no free name but `this` and names
-- only fields below it in an order of the fields; its rows have its columns, and their parts are there
pub record IsFieldButType (model : Model) (order : ℕ → ℕ) (k : ℕ) (f : Field) : Type 0 where
  pub columns : IsFew f.columns
  pub rows : All (λ r. length r ≡ f.columns) f.rows
  pub parts : All (λ r. All (IsParent (length model.sigs)) r) f.rows
  pub owner : IfSome f.owner (λ s. s < length model.sigs)
  pub declared : IsSome f.declared ↔ IsSome f.owner
  pub bound : IfSome f.declared (λ d. IsRightBound model (λ g. order g < order k) d.bound this_column)
  pub width : IfSome f.declared (λ d. columns_in (shapes_of model) (term_of d.bound.expr) this_column + 1 ≡ f.columns)

-- a field's owner is there, where it has one, and then alone it has a bound
pub record HasOwner (sigs : ℕ) (f : Field) : Type 0 where
  pub owner : IfSome f.owner (λ s. s < sigs)
  pub declared : IsSome f.declared ↔ IsSome f.owner

-- a field's bound is right, and has a column less than the field
pub record HasBound (model : Model) (order : ℕ → ℕ) (k columns : ℕ) (d : FieldBound) : Type 0 where
  pub bound : IsRightBound model (λ g. order g < order k) d.bound this_column
  pub width : columns_in (shapes_of model) (term_of d.bound.expr) this_column + 1 ≡ columns

-- a command's predicate is there, and its formula is right where each parameter stands for one atom
pub record IsCommand (model : Model) (c : Command) : Type 0 where
  pub body : IfSome c.body (λ b. b < length model.bodies)
  pub formula : HasAtomParameters model c → IsRightFormula model (claim_of c.formula) no_columns

pub record IsModelButTypes (model : Model) : Type 0 where
  pub few : length model.bodies < 2 ^ 32
  pub sigs : All (IsRightSig model) model.sigs
  pub hierarchy : (s : ℕ) → ¬ IsAncestor model.sigs s s
  pub order : ℕ → ℕ
  pub fields : (k : ℕ) (f : Field) → slice_get model.fields k ≡ Some f → IsFieldButType model order k f
  pub facts : All (λ (f : Fact). IsRightFormula model (claim_of f.formula) no_columns) model.facts
  pub asserts : All (λ (a : Assert). IsRightFormula model (claim_of a.formula) no_columns) model.asserts
  pub bodies : All (IsRightBody model) model.bodies
  pub commands : All (IsCommand model) model.commands

-- an expression of the model that has no free name
abbrev pub IsRightValue : Model → Term → Type 0
IsRightValue model e = IsRightTerm (shapes_of model) AnyField AnyBody e no_columns

-- a parameter stands for one atom
abbrev pub IsOne : Parameter → Type 0
IsOne p = p.bound.multiplicity ≡ One

-- the sigs and the fields, and the formulas of a model
pub record HasDeclarations (model : Model) (shape : Shape) : Type 0 where
  pub sigs : All (IsRightSig model) model.sigs
  pub hierarchy : (s : ℕ) → ¬ IsAncestor model.sigs s s
  pub fields : (k : ℕ) (f : Field) → slice_get model.fields k ≡ Some f → IsFieldButType model (order_of shape) k f

pub record HasFormulas (model : Model) : Type 0 where
  pub facts : All (λ (f : Fact). IsRightFormula model (claim_of f.formula) no_columns) model.facts
  pub asserts : All (λ (a : Assert). IsRightFormula model (claim_of a.formula) no_columns) model.asserts
  pub bodies : All (IsRightBody model) model.bodies
  pub commands : All (IsCommand model) model.commands

-- a number for each sig, which falls along a parent
abbrev pub FallsTo : List ℕ → ℕ → Column → Type 0
FallsTo numbers s (SigColumn p) = slice_index numbers p < slice_index numbers s
FallsTo numbers s IntColumn = Unit {0}

abbrev pub AreFalling : List Sig → List ℕ → Type 0
AreFalling sigs numbers = (s : ℕ) (d : Sig) → slice_get sigs s ≡ Some d → All (FallsTo numbers s) (parents_of d.kind)
