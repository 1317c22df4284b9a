-- The names of parameters, in which later bounds see earlier ones, and what a call sees of a body.
use Rattle.std.specs.Prelude.{◌≡◌, ℕ, suc, List, [], ◌∷◌, ◌++◌, Option, Some, None}
use Rattle.core_tree.specs.declared.model.Model.{Model}
use Rattle.core_tree.specs.declared.model.Parameter.{Parameter}
use Rattle.core_tree.specs.declared.model.Body.{Body}
use Rattle.core_tree.specs.declared.model.BodyForm.{BodyForm}
use Rattle.core_tree.specs.declared.model.BodyForm.TheVariants.{Test, Term as Value}
use Rattle.core_tree.specs.Trees.{term_of}
use Rattle.core_tree.specs.Columns.{Signature, Shapes, Columns, no_columns, with_columns, columns_in}
use Rattle.core_tree.specs.Models.{parameter_columns, AnyField, IsRightBound}
use Rattle.resolve_check.specs.declared.names.Named.{Named}
use Rattle.resolve_check.specs.Names.{names_of}

-- the names behind parameters from number k on
abbrev pub names_behind : Shapes → List Parameter → ℕ → Columns → Columns
names_behind shapes [] k names = names
names_behind shapes (p ∷ ps) k names = names_behind shapes ps (suc k) (with_columns names k (columns_in shapes (term_of p.bound.expr) names))

-- a parameter of number k as a name behind these names
abbrev pub named_next : Shapes → List Named → ℕ → Parameter → Named
named_next shapes names k p = record { name = k; columns = columns_in shapes (term_of p.bound.expr) (names_of names) }

-- parameters from number k on as names behind these
abbrev pub named_after : Shapes → List Parameter → ℕ → List Named → List Named
named_after shapes [] k names = names
named_after shapes (p ∷ ps) k names = named_after shapes ps (suc k) (names ++ named_next shapes names k p ∷ [])

abbrev pub result_under : Shapes → BodyForm → Columns → Option ℕ
result_under shapes (Test f) names = None
result_under shapes (Value e bound) names = Some (columns_in shapes (term_of bound.expr) names)

abbrev pub signature_under : Shapes → Body → Signature
signature_under shapes body = record { parameters = parameter_columns shapes body.parameters 0 no_columns; result = result_under shapes body.form (names_behind shapes body.parameters 0 no_columns); rank = body.rank }

-- a parameter as a name, with a bound that is right behind the names before it
pub record IsParameter (model : Model) (shapes : Shapes) (names : List Named) (k : ℕ) (p : Parameter) (named : Named) : Type 0 where
  pub same : named ≡ named_next shapes names k p
  pub right : IsRightBound model AnyField p.bound (names_of names)
