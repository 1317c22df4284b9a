-- The model in which each relation parameter of the predicate that a command runs is a field.
use Rattle.std.specs.Prelude.{◌≡◌, ◌↔◌, ℕ, suc, ◌<◌, ◌≤◌, cond, Bool, true, false, not, if◌then◌else◌, List, [], ◌∷◌, ◌++◌, map, length, set, Contains, Option, Some, None, slice_get, decimal}
use Rattle.core_tree.specs.declared.model.Model.{Model}
use Rattle.core_tree.specs.declared.model.Sig.{Sig}
use Rattle.core_tree.specs.declared.model.Field.{Field}
use Rattle.core_tree.specs.declared.model.Body.{Body}
use Rattle.core_tree.specs.declared.model.Command.{Command}
use Rattle.core_tree.specs.declared.model.Parameter.{Parameter}
use Rattle.core_tree.specs.declared.operators.Multiplicity.{Multiplicity}
use Rattle.core_tree.specs.declared.operators.Multiplicity.TheVariants.{One}
use Rattle.core_tree.specs.Trees.{claim_of, term_of}
use Rattle.core_tree.specs.Columns.{Columns, no_columns, with_columns, columns_in}
use Rattle.core_tree.specs.Models.{plain_shapes}
use Rattle.core_tree.specs.Types.{TypeRow, TypeRows, NameRows, no_rows, with_rows, type_of}
use Rattle.form_skolem.specs.Claims.{run_claim}

abbrev pub is_one : Multiplicity → Bool
is_one One = true
is_one m = false

-- A parameter stands for a relation where its bound has another word than `one`. A bound of several columns has one.
abbrev pub is_relation : Parameter → Bool
is_relation p = not (is_one p.bound.multiplicity)

-- whether some parameter stands for a relation
abbrev pub has_relation : List Parameter → Bool
has_relation [] = false
has_relation (p ∷ ps) = cond (is_relation p) true (has_relation ps)

-- a parameter with the columns and the rows of its bound
pub record TypedParameter : Type 0 where
  pub parameter : Parameter
  pub columns : ℕ
  pub rows : TypeRows

module _ (model : Model) where
  -- the parameters from number k on, where names have these columns and rows: a bound sees the parameters before its own
  abbrev pub typed_from : ℕ → List Parameter → Columns → NameRows → List TypedParameter
  typed_from k [] columns rows = []
  typed_from k (p ∷ ps) columns rows =
      record { parameter = p; columns = columns_in (plain_shapes model) (term_of p.bound.expr) columns; rows = type_of model (term_of p.bound.expr) rows }
      ∷ typed_from (suc k) ps (with_columns columns k (columns_in (plain_shapes model) (term_of p.bound.expr) columns)) (with_rows rows k (type_of model (term_of p.bound.expr) rows))

  -- the parameters of a body
  abbrev pub typed_parameters : Body → List TypedParameter
  typed_parameters body = typed_from 0 body.parameters no_columns no_rows

-- the parameters that stand for relations
abbrev pub relations : List TypedParameter → List TypedParameter
relations [] = []
relations (t ∷ ts) = if is_relation t.parameter then t ∷ relations ts else relations ts

-- the field of each parameter that stands for a relation, numbered from n on
abbrev pub fields_from : ℕ → List Parameter → List (Option ℕ)
fields_from n [] = []
fields_from n (p ∷ ps) = if is_relation p then Some n ∷ fields_from (suc n) ps else None ∷ fields_from n ps

-- the label of a relation, when these labels are taken: the first choice itself, or it with `$` and the least number from 2 on
-- that makes it new
pub data IsLabel (taken : List (List ℕ)) (first : List ℕ) : List ℕ → Type 0 where
  plain : (Contains taken first → ⊥) → IsLabel taken first first
  counted : (n : ℕ) → Contains taken first → 2 ≤ n → (Contains taken (first ++ 36 ∷ decimal n) → ⊥) →
      ((m : ℕ) → 2 ≤ m → m < n → Contains taken (first ++ 36 ∷ decimal m)) → IsLabel taken first (first ++ 36 ∷ decimal n)

-- the labels of sigs, and of sigs and then fields
abbrev pub sig_labels : List Sig → List (List ℕ)
sig_labels sigs = map (λ (s : Sig). s.label) sigs

abbrev pub labels : List Sig → List Field → List (List ℕ)
labels sigs fields = sig_labels sigs ++ map (λ (f : Field). f.label) fields

-- the field that stands for a parameter, when these labels are taken: it is static and no sig's, and has the columns of the
-- parameter's bound and just its rows
pub record IsFieldFor (taken : List (List ℕ)) (t : TypedParameter) (f : Field) : Type 0 where
  pub label : IsLabel taken (36 ∷ t.parameter.label) f.label
  pub static : f.is_var ≡ false
  pub owner : f.owner ≡ None
  pub declared : f.declared ≡ None
  pub columns : f.columns ≡ t.columns
  pub rows : (r : TypeRow) → Contains f.rows r ↔ Contains t.rows r

-- the new fields are the old ones and, behind them, one for each of these parameters, in order
abbrev pub AddsFields : List Sig → List Field → List TypedParameter → List Field → Type 0
AddsFields sigs old [] new = new ≡ old
AddsFields sigs old (t ∷ ts) new = (f : Field) × IsFieldFor (labels sigs old) t f × AddsFields sigs (old ++ f ∷ []) ts new

-- a command that is as another but for what it asks
pub record IsAsked (old new : Command) : Type 0 where
  pub kind : new.kind ≡ old.kind
  pub keyword : new.keyword ≡ old.keyword
  pub first : new.first ≡ old.first
  pub name_place : new.name_place ≡ old.name_place
  pub label : new.label ≡ old.label
  pub body : new.body ≡ old.body
  pub scope : new.scope ≡ old.scope

-- the command of this number runs this predicate
pub record RunsBody (model : Model) (number : ℕ) (command : Command) (b : ℕ) (body : Body) : Type 0 where
  pub chosen : slice_get model.commands number ≡ Some command
  pub runs : command.body ≡ Some b
  pub body_is : slice_get model.bodies b ≡ Some body

-- the same model, but that the parameters of a body that stand for relations have fields, over which this command asks
pub record IsOpenedOver (model : Model) (number : ℕ) (command : Command) (b : ℕ) (body : Body) (opened : Model) : Type 0 where
  pub sigs : opened.sigs ≡ model.sigs
  pub fields : AddsFields model.sigs model.fields (relations (typed_parameters model body)) opened.fields
  pub facts : opened.facts ≡ model.facts
  pub asserts : opened.asserts ≡ model.asserts
  pub bodies : opened.bodies ≡ model.bodies
  pub asked : Command
  pub commands : opened.commands ≡ set model.commands number asked
  pub same : IsAsked command asked
  pub formula : claim_of asked.formula ≡ run_claim b body.parameters (fields_from (length model.fields) body.parameters)

-- no parameter of a predicate that the command of this number runs stands for a relation
abbrev pub HasNoRelations : Model → ℕ → Type 0
HasNoRelations model number =
    (command : Command) (b : ℕ) (body : Body) → RunsBody model number command b body → has_relation body.parameters ≡ false

-- the command of this number runs this predicate, of which some parameter stands for a relation
pub record HasRelations (model : Model) (number b : ℕ) : Type 0 where
  pub command : Command
  pub body : Body
  pub runs : RunsBody model number command b body
  pub some : has_relation body.parameters ≡ true

-- The model with the relation parameters of the predicate that the command of this number runs as fields. Without such a command,
-- or such parameters, it is the model as it was.
pub data IsOpened (model : Model) (number : ℕ) (opened : Model) : Type 0 where
  as_it_was : HasNoRelations model number → opened ≡ model → IsOpened model number opened
  with_fields : (b : ℕ) (has : HasRelations model number b) → IsOpenedOver model number has.command b has.body opened →
      IsOpened model number opened
