-- That the readings of predicates and functions are right, and what these mean by their bare names.
use Rattle.std.specs.Prelude.{◌≡◌, ℕ, List, [], ◌∷◌, ◌++◌, map, Option, Some, None, slice_get}
use Rattle.syntax_tree.specs.declared.expr.Named.{Named}
use Rattle.syntax_tree.specs.declared.expr.Decl.{Decl}
use Rattle.syntax_tree.specs.declared.expr.Expr.{Expr}
use Rattle.syntax_tree.specs.declared.module.SigName.{SigName}
use Rattle.syntax_tree.specs.declared.module.Pred.{Pred}
use Rattle.syntax_tree.specs.declared.module.Fun.{Fun}
use Rattle.resolve_types.specs.declared.columns.Columns.{Columns}
use Rattle.resolve_readings.specs.declared.meaning.Meaning.{Meaning}
use Rattle.resolve_readings.specs.declared.part.RootPlace.TheVariants as place
use Rattle.resolve_names.specs.declared.table.Namespace.{Namespace}
use Rattle.resolve_rules.specs.Candidates.{body_of}
use Rattle.resolve_read.specs.declared.types.Ground.TheVariants as stands
use Rattle.resolve_read.specs.declared.types.Readings.{Readings}
use Rattle.resolve_read.specs.At.{At, Scope, with_decls}
use Rattle.resolve_read.specs.Reads.{BoundReads, DeclsRead, IsRead, RootReads}
use Rattle.resolve_told_sigs.specs.Says.{is_integer, read_outside, this_scope}
use Rattle.resolve_told.specs.Parameters.{as_expr, decls_of}

-- a type for each name of declarations, whose bounds have these types in turn
abbrev pub spread : List (Decl Expr) → List Columns → List Columns
spread (d ∷ ds) (c ∷ cs) = map (λ (n : Named). c) d.names ++ spread ds cs
spread _ _ = []

-- the name `this` and its type, where something stands before the dot
abbrev pub ReceiverReads : At → Option SigName → Scope → List Columns → Type 0
ReceiverReads at None scope types = (scope ≡ []) × (types ≡ [])
ReceiverReads at (Some receiver) scope types = (c : Columns) × BoundReads at [] None (as_expr receiver) c × (scope ≡ this_scope c) × (types ≡ c ∷ [])

-- a body of instance k and number b with these parameters and this result
abbrev pub Means : Readings → Option ℕ → (k b : ℕ) → List Columns → Option Columns → Type 0
Means readings integers k b parameters result =
    slice_get readings.types.bodies b ≡ Some (body_of (record { parameters = parameters; result = result }) (is_integer integers k))

module _ (scopes : List Namespace) (readings : Readings) (integers : Option ℕ) (k b : ℕ) where
  -- the roots of a predicate
  pub record PredicateReads (p : Pred) : Type 0 where
    pub scope : Scope
    pub first : List Columns
    pub types : List Columns
    pub receiver : ReceiverReads (read_outside scopes readings k stands.BodyBound) p.receiver scope first
    pub decls : DeclsRead (read_outside scopes readings k stands.BodyBound) scope (decls_of p.parameters) types
    pub means : Means readings integers k b (first ++ spread (decls_of p.parameters) types) None
    pub block : IsRead (read_outside scopes readings k stands.Anywhere) (with_decls scope (decls_of p.parameters) types) p.block

  -- the roots of a function, whose expression has as many columns as the bound of its result
  pub record FunctionReads (f : Fun) : Type 0 where
    pub scope : Scope
    pub first : List Columns
    pub types : List Columns
    pub receiver : ReceiverReads (read_outside scopes readings k stands.BodyBound) f.receiver scope first
    pub decls : DeclsRead (read_outside scopes readings k stands.BodyBound) scope (decls_of f.parameters) types
    pub result : Columns
    pub bound : BoundReads (read_outside scopes readings k stands.BodyBound) (with_decls scope (decls_of f.parameters) types) f.result.word f.result.tree result
    pub means : Means readings integers k b (first ++ spread (decls_of f.parameters) types) (Some result)
    pub meaning : Meaning
    pub value : RootReads (read_outside scopes readings k stands.Anywhere) (with_decls scope (decls_of f.parameters) types) (place.Columns result.count) f.value meaning
