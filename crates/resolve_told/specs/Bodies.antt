-- The predicates and functions of a model, as the texts declare them.
use Rattle.std.specs.Prelude.{◌≡◌, ◌⊎◌, ℕ, ◌+◌, ◌==◌, if◌then◌else◌, slice_index, Bool, true, false, List, [], ◌∷◌, ◌++◌, codes, Option, Some, None, option_map, is_some}
use Rattle.syntax_tree.specs.declared.operator.Multiplicity.{Multiplicity as Word}
use Rattle.syntax_tree.specs.declared.expr.Named.{Named}
use Rattle.syntax_tree.specs.declared.expr.Decl.{Decl}
use Rattle.syntax_tree.specs.declared.expr.Expr.{Expr}
use Rattle.syntax_tree.specs.declared.module.SigName.{SigName}
use Rattle.syntax_tree.specs.declared.module.Parameters.{Parameters}
use Rattle.syntax_tree.specs.declared.module.Pred.{Pred}
use Rattle.syntax_tree.specs.declared.module.Fun.{Fun}
use Rattle.syntax_tree.specs.declared.module.Paragraph.{Paragraph}
use Rattle.syntax_tree.specs.declared.module.Paragraph.TheVariants as paragraph
use Rattle.syntax_tree.specs.declared.instance.Text.{Text}
use Rattle.syntax_tree.specs.declared.instance.Instance.{Instance}
use Rattle.core_tree.specs.declared.operators.Multiplicity.{Multiplicity}
use Rattle.core_tree.specs.declared.operators.Multiplicity.TheVariants as multiplicity
use Rattle.core_tree.specs.declared.tree.Formula.{Formula}
use Rattle.core_tree.specs.declared.tree.Expr.{Expr as Tree}
use Rattle.core_tree.specs.declared.model.Bound.{Bound}
use Rattle.core_tree.specs.declared.model.Parameter.{Parameter}
use Rattle.core_tree.specs.declared.model.BodyForm.TheVariants as made
use Rattle.core_tree.specs.declared.model.Body.{Body}
use Rattle.core_tree.specs.declared.model.Model.{Model}
use Rattle.core_tree.specs.Trees.{term_of, claim_of}
use Rattle.core_tree.specs.Models.{parameters_of as parameter_columns}
use Rattle.resolve_names.specs.declared.table.Namespace.{Namespace}
use Rattle.resolve_hierarchy.specs.Rules.{paragraphs_in}
use Rattle.resolve_said.specs.Locals.{Scope, under_names, under_decls}
use Rattle.resolve_said.specs.Operators.{word_of}
use Rattle.resolve_said.specs.Said.{Standing, SaysSet, SaysFormula, apart_from}
use Rattle.resolve_told.specs.Lists.{OneByOne}
use Rattle.resolve_read.specs.declared.types.Readings.{Readings}
use Rattle.resolve_told_sigs.specs.Integers.{integers_of}
use Rattle.resolve_told_sigs.specs.Says.{outside}
use Rattle.resolve_told.specs.Parameters.{as_expr, decls_of}
use Rattle.resolve_told.specs.Reads.{PredicateReads, FunctionReads}

-- a predicate or a function, with the number of its instance
abbrev pub Declaration : Type 0
Declaration = ℕ × Paragraph

-- those that paragraphs of instance k declare, in their order
abbrev pub bodies_by : ℕ → Paragraph → List Declaration
bodies_by k (paragraph.Pred p) = (k, paragraph.Pred p) ∷ []
bodies_by k (paragraph.Fun f) = (k, paragraph.Fun f) ∷ []
bodies_by k _ = []

abbrev pub bodies_in : ℕ → List Paragraph → List Declaration
bodies_in k [] = []
bodies_in k (p ∷ ps) = bodies_by k p ++ bodies_in k ps

-- those of these instances, where the first of them has this number
abbrev pub bodies_from : List Text → ℕ → List Instance → List Declaration
bodies_from texts k [] = []
bodies_from texts k (i ∷ is) = bodies_in k (paragraphs_in texts i) ++ bodies_from texts (k + 1) is

-- A parameter as it is declared: its name, from how many of the names before it it differs, and its bound, with the names that
-- are in scope there.
pub record Declared : Type 0 where
  pub name : List ℕ
  pub apart : ℕ
  pub scope : Scope
  pub word : Option Word
  pub bound : Expr

-- the names of a declaration from place n on
abbrev pub named_from : Scope → Decl Expr → ℕ → List Named → List Declared
named_from scope d n [] = []
named_from scope d n (x ∷ xs) =
    record { name = x.name; apart = apart_from d.is_disjoint n; scope = scope; word = d.word; bound = d.bound } ∷ named_from scope d (n + 1) xs

-- the names of declarations, whose bounds see the declarations before them
abbrev pub named_by : Scope → List (Decl Expr) → List Declared
named_by scope [] = []
named_by scope (d ∷ ds) = named_from scope d 0 d.names ++ named_by (under_names scope d.names) ds

-- where something stands before the dot, `this` is in scope, and its bound is what stands there
abbrev pub this_scope : Bool → Scope
this_scope false = []
this_scope true = codes "this" ∷ []

abbrev pub this_by : Option Expr → List Declared
this_by None = []
this_by (Some e) = record { name = codes "this"; apart = 0; scope = []; word = None; bound = e } ∷ []

-- the parameters of a predicate or function: `this`, where something stands before the dot, and those in brackets
abbrev pub parameters_of : Option SigName → Option Parameters → List Declared
parameters_of receiver ps = this_by (option_map as_expr receiver) ++ named_by (this_scope (is_some receiver)) (decls_of ps)

-- their names, which are in scope in its body
abbrev pub scope_in : Option SigName → Option Parameters → Scope
scope_in receiver ps = under_decls (this_scope (is_some receiver)) (decls_of ps)

-- the multiplicity of a bound of so many columns: that of its word, and without a word `one` for one column and `set` for more
abbrev pub bound_word : Option Word → ℕ → Multiplicity
bound_word None columns = if columns == 1 then multiplicity.One else multiplicity.Set
bound_word (Some w) columns = word_of w

-- The bound of a result, which constrains nothing: it has the multiplicity of its word, and without a word `one` or `set`.
abbrev pub HasWord : Option Word → Multiplicity → Type 0
HasWord None m = (m ≡ multiplicity.One) ⊎ (m ≡ multiplicity.Set)
HasWord (Some w) m = m ≡ word_of w

module _ (at : Standing) where
  -- a bound of a result, where these names are in scope
  pub record IsBound (scope : Scope) (w : Option Word) (e : Expr) (b : Bound) : Type 0 where
    pub word : HasWord w b.multiplicity
    pub expr : SaysSet at scope e (term_of b.expr)

  -- a parameter of so many columns
  pub record IsParameter (columns : ℕ) (d : Declared) (p : Parameter) : Type 0 where
    pub label : p.label ≡ d.name
    pub apart : p.apart ≡ d.apart
    pub word : p.bound.multiplicity ≡ bound_word d.word columns
    pub expr : SaysSet at d.scope d.bound (term_of p.bound.expr)

  -- the parameters, of which these are the columns
  abbrev pub AreParameters : List ℕ → List Declared → List Parameter → Type 0
  AreParameters columns ds ps = OneByOne (λ n d p. IsParameter (slice_index columns n) d p) ds ps

  -- a predicate: its formula says what its block does, where its parameters are in scope
  pub record IsPredicate (model : Model) (p : Pred) (b : Body) : Type 0 where
    pub instance : b.instance ≡ at.instance
    pub parameters : AreParameters (parameter_columns model b) (parameters_of p.receiver p.parameters) b.parameters
    pub formula : Formula
    pub form : b.form ≡ made.Test formula
    pub said : SaysFormula at (scope_in p.receiver p.parameters) p.block (claim_of formula)

  -- a function: its expression says what stands in its braces, where its parameters are in scope, as in the bound of its result
  pub record IsFunction (model : Model) (f : Fun) (b : Body) : Type 0 where
    pub instance : b.instance ≡ at.instance
    pub parameters : AreParameters (parameter_columns model b) (parameters_of f.receiver f.parameters) b.parameters
    pub value : Tree
    pub result : Bound
    pub form : b.form ≡ made.Term value result
    pub said : SaysSet at (scope_in f.receiver f.parameters) f.value (term_of value)
    pub bound : IsBound (scope_in f.receiver f.parameters) f.result.word f.result.tree result

module _ (scopes : List Namespace) (model : Model) (readings : Readings) (integers : Option ℕ) where
  -- the body of number n is that of a predicate or function, whose readings are right
  abbrev pub IsBody : ℕ → Declaration → Body → Type 0
  IsBody n (k, paragraph.Pred p) b = IsPredicate (outside scopes model readings k) model p b × PredicateReads scopes readings integers k n p
  IsBody n (k, paragraph.Fun f) b = IsFunction (outside scopes model readings k) model f b × FunctionReads scopes readings integers k n f
  IsBody n (k, _) b = ⊥

-- The bodies of the model are just those of the predicates and functions that the texts of all instances declare, one by one in
-- their order. Of their ranks nothing is said.
abbrev pub AreBodiesTold : List Text → List Instance → List Namespace → Model → Readings → Type 0
AreBodiesTold texts instances scopes model readings =
    OneByOne (IsBody scopes model readings (integers_of texts instances)) (bodies_from texts 0 instances) model.bodies
