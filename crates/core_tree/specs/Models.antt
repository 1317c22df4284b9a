-- What a resolved model keeps.
use Rattle.std.specs.Prelude.{◌≡◌, ◌↔◌, ℕ, suc, ◌+◌, ◌^◌, ◌<◌, eqb, if◌then◌else◌, List, [], ◌∷◌, map, length, Contains, All, Option, Some, None, IsSome, IfSome, slice_get}
use Rattle.core_tree.specs.declared.model.Model.{Model}
use Rattle.core_tree.specs.declared.model.Sig.{Sig}
use Rattle.core_tree.specs.declared.model.SigKind.{SigKind}
use Rattle.core_tree.specs.declared.model.SigKind.TheVariants.{Top, Extends, Subset}
use Rattle.core_tree.specs.declared.model.Column.{Column}
use Rattle.core_tree.specs.declared.model.Column.TheVariants.{Sig as SigColumn, Int as IntColumn}
use Rattle.core_tree.specs.declared.model.Field.{Field}
use Rattle.core_tree.specs.declared.model.Fact.{Fact}
use Rattle.core_tree.specs.declared.model.Assert.{Assert}
use Rattle.core_tree.specs.declared.model.Body.{Body}
use Rattle.core_tree.specs.declared.model.BodyForm.{BodyForm}
use Rattle.core_tree.specs.declared.model.BodyForm.TheVariants.{Test, Term as Value}
use Rattle.core_tree.specs.declared.model.Parameter.{Parameter}
use Rattle.core_tree.specs.declared.model.Command.{Command}
use Rattle.core_tree.specs.declared.model.Bound.{Bound}
use Rattle.core_tree.specs.Trees.{Term, Claim, term_of, claim_of}
use Rattle.core_tree.specs.declared.operators.Multiplicity.TheVariants.{One}
use Rattle.core_tree.specs.Types.{TypeRow, TypeRows, row_pairs, sig_rows, with_rows, no_rows, type_of}
use Rattle.core_tree.specs.Columns.{Signature, Shapes, Columns, no_columns, with_columns, columns_in, IsFew, CanBound, IsRightTerm, IsRightClaim}

-- the sigs and `Int` that are a sig's parents
abbrev pub parents_of : SigKind → List Column
parents_of Top = []
parents_of (Extends p) = SigColumn p ∷ []
parents_of (Subset ps) = ps

-- sig a is an ancestor of sig s: a parent, or an ancestor of one
pub data IsAncestor (sigs : List Sig) : ℕ → ℕ → Type 0 where
  parent : {a s : ℕ} → (d : Sig) → slice_get sigs s ≡ Some d → Contains (parents_of d.kind) (SigColumn a) → IsAncestor sigs a s
  above : {a p s : ℕ} → (d : Sig) → slice_get sigs s ≡ Some d → Contains (parents_of d.kind) (SigColumn p) → IsAncestor sigs a p → IsAncestor sigs a s

-- a parent is a sig of the model, or `Int`
abbrev pub IsParent : ℕ → Column → Type 0
IsParent count (SigColumn p) = p < count
IsParent count IntColumn = Unit {0}

-- the columns of parameters: those of their bounds, in which earlier parameters may stand
abbrev pub parameter_columns : Shapes → List Parameter → ℕ → Columns → List ℕ
parameter_columns shapes [] k names = []
parameter_columns shapes (p ∷ ps) k names = columns_in shapes (term_of p.bound.expr) names ∷ parameter_columns shapes ps (suc k) (with_columns names k (columns_in shapes (term_of p.bound.expr) names))

-- the names of parameters from number k on, with their columns
abbrev pub named_columns : List ℕ → ℕ → Columns
named_columns [] k = no_columns
named_columns (n ∷ ns) k = λ y. if eqb y k then Some n else named_columns ns (suc k) y

-- what trees of bounds may name: bounds call no function, so signatures play no part in columns
abbrev pub plain_shapes : Model → Shapes
plain_shapes model = record { sigs = length model.sigs; fields = map (λ (f : Field). f.columns) model.fields; bodies = [] }

-- the columns of a body's parameters
abbrev pub parameters_of : Model → Body → List ℕ
parameters_of model body = parameter_columns (plain_shapes model) body.parameters 0 no_columns

-- the columns of a function's result bound, with these names
abbrev pub result_of : Model → BodyForm → Columns → Option ℕ
result_of model (Test f) names = None
result_of model (Value e bound) names = Some (columns_in (plain_shapes model) (term_of bound.expr) names)

abbrev pub signature_of : Model → Body → Signature
signature_of model body = record { parameters = parameters_of model body; result = result_of model body.form (named_columns (parameters_of model body) 0); rank = body.rank }

-- what trees of the model may name
abbrev pub shapes_of : Model → Shapes
shapes_of model = record { sigs = length model.sigs; fields = map (λ (f : Field). f.columns) model.fields; bodies = map (signature_of model) model.bodies }

abbrev pub AnyField : ℕ → Type 0
AnyField f = Unit {0}

abbrev pub AnyBody : Signature → Type 0
AnyBody s = Unit {0}

-- a bound calls no function
abbrev pub NoFunction : Signature → Type 0
NoFunction s = s.result ≡ None

-- a formula of the model with these names
abbrev pub IsRightFormula : Model → Claim → Columns → Type 0
IsRightFormula model f names = IsRightClaim (shapes_of model) AnyField AnyBody f names

-- a bound of the model, with only fields that are allowed
abbrev pub IsRightBound : Model → (ℕ → Type 0) → Bound → Columns → Type 0
IsRightBound model AllowedField b names = IsRightTerm (shapes_of model) AllowedField NoFunction (term_of b.expr) names × CanBound b.multiplicity (columns_in (shapes_of model) (term_of b.expr) names)

-- the name `this` alone
abbrev pub this_column : Columns
this_column = with_columns no_columns 0 1

-- each parameter's bound is right, and sees the parameters before it
abbrev pub AreRightParameters : Model → List Parameter → ℕ → Columns → Type 0
AreRightParameters model [] k names = Unit {0}
AreRightParameters model (p ∷ ps) k names = IsRightBound model AnyField p.bound names × AreRightParameters model ps (suc k) (with_columns names k (columns_in (plain_shapes model) (term_of p.bound.expr) names))

-- a predicate's formula, or a function's expression with the columns of its result bound; it calls
-- only bodies of lower rank
abbrev pub IsRightForm : Model → ℕ → BodyForm → Columns → Type 0
IsRightForm model rank (Test f) names = IsRightClaim (shapes_of model) AnyField (λ s. s.rank < rank) (claim_of f) names
IsRightForm model rank (Value e bound) names = IsRightTerm (shapes_of model) AnyField (λ s. s.rank < rank) (term_of e) names × (columns_in (shapes_of model) (term_of e) names ≡ columns_in (shapes_of model) (term_of bound.expr) names) × IsRightBound model AnyField bound names

-- a body has no free name but its parameters
abbrev pub IsRightBody : Model → Body → Type 0
IsRightBody model body = AreRightParameters model body.parameters 0 no_columns × IsRightForm model body.rank body.form (named_columns (parameters_of model body) 0)

-- the rows of a sig, each followed by a row of a bound in which `this` is an atom of the sig
abbrev pub declared_rows : Model → ℕ → Term → TypeRows
declared_rows model s e = row_pairs (sig_rows model.sigs (length model.sigs) s) (type_of model e (with_rows no_rows 0 (sig_rows model.sigs (length model.sigs) s)))

-- a sig's parents are there, and its appended fact has no free name but `this`
pub record IsRightSig (model : Model) (s : Sig) : Type 0 where
  pub parents : All (IsParent (length model.sigs)) (parents_of s.kind)
  pub appended : IfSome s.appended (λ f. IsRightFormula model (claim_of f) this_column)

-- a field's owner is there, where it has one, and its bound has no free name but `this` and names
-- only fields below it in an order of the fields
pub record IsRightField (model : Model) (order : ℕ → ℕ) (k : ℕ) (f : Field) : Type 0 where
  pub columns : IsFew f.columns
  pub rows : All (λ r. length r ≡ f.columns) f.rows
  pub parts : All (λ r. All (IsParent (length model.sigs)) r) f.rows
  pub owner : IfSome f.owner (λ s. s < length model.sigs)
  pub declared : IsSome f.declared ↔ IsSome f.owner
  pub bound : IfSome f.declared (λ d. IsRightBound model (λ g. order g < order k) d.bound this_column)
  pub width : IfSome f.declared (λ d. columns_in (shapes_of model) (term_of d.bound.expr) this_column + 1 ≡ f.columns)
  pub typed : IfSome f.owner (λ s. IfSome f.declared (λ d. (r : TypeRow) → Contains f.rows r ↔ Contains (declared_rows model s (term_of d.bound.expr)) r))

-- each parameter of the predicate that a command runs stands for one atom. Where one stands for a
-- relation, the command's formula is not one of this language until that parameter is a field
abbrev pub HasAtomParameters : Model → Command → Type 0
HasAtomParameters model c = IfSome c.body (λ b. IfSome (slice_get model.bodies b) (λ (body : Body). All (λ (p : Parameter). p.bound.multiplicity ≡ One) body.parameters))

pub record IsModel (model : Model) : Type 0 where
  pub few : length model.bodies < 2 ^ 32
  pub sigs : All (IsRightSig model) model.sigs
  pub hierarchy : (s : ℕ) → ¬ IsAncestor model.sigs s s
  pub order : ℕ → ℕ
  pub fields : (k : ℕ) (f : Field) → slice_get model.fields k ≡ Some f → IsRightField model order k f
  pub facts : All (λ (f : Fact). IsRightFormula model (claim_of f.formula) no_columns) model.facts
  pub asserts : All (λ (a : Assert). IsRightFormula model (claim_of a.formula) no_columns) model.asserts
  pub bodies : All (IsRightBody model) model.bodies
  pub commands : All (λ (c : Command). IfSome c.body (λ b. b < length model.bodies) × (HasAtomParameters model c → IsRightFormula model (claim_of c.formula) no_columns)) model.commands
