-- Where a root is read: what its names may stand for, what is known of types, and what the text's names are taken to stand for.
use Rattle.std.specs.Prelude.{ℕ, if◌then◌else◌, List, [], ◌∷◌, Option, Some, None}
use Rattle.std.specs.Str.{bytes_eq}
use Rattle.base_types.specs.declared.place.Position.{Position}
use Rattle.syntax_tree.specs.declared.expr.Named.{Named}
use Rattle.syntax_tree.specs.declared.expr.Decl.{Decl}
use Rattle.syntax_tree.specs.declared.expr.Binding.{Binding}
use Rattle.syntax_tree.specs.declared.expr.Expr.{Expr}
use Rattle.resolve_types.specs.declared.columns.Columns.{Columns}
use Rattle.resolve_names.specs.declared.table.Namespace.{Namespace}
use Rattle.resolve_said.specs.declared.place.OwnField.{OwnField}
use Rattle.resolve_read.specs.declared.types.Types.{Types}
use Rattle.resolve_read.specs.declared.locals.Locals.{Locals, Empty, One', Declared', Bound'}
use Rattle.resolve_read.specs.declared.spot.Spot.{Spot}
use Rattle.resolve_picks.specs.declared.target.Target.{Target}
use Rattle.resolve_picks.specs.Picks.{picked_in}
use Rattle.resolve_read.specs.declared.types.Ground.{Ground}

-- The names of all instances, the types of all declarations, the instance in whose text a root stands, the fields that are joined to
-- `this` where their name alone is written, the type of `this`, the ground on which the root stands, and what the name at a place is
-- taken to stand for, where it is none in scope.
pub record At : Type 0 where
  pub scopes : List Namespace
  pub types : Types
  pub instance : ℕ
  pub own : List OwnField
  pub this : Columns
  pub ground : Ground
  pub picks : Position → Option Target

-- ------------------------------------------------------------------ names in scope

-- a variable, a parameter or a `let` name, and its type
pub record Local : Type 0 where
  pub name : List ℕ
  pub columns : Columns

-- the names in scope, the innermost first
abbrev pub Scope : Type 0
Scope = List Local

-- the type of the innermost name that is written so
abbrev pub type_of : List ℕ → Scope → Option Columns
type_of text [] = None
type_of text (l ∷ outer) = if bytes_eq l.name text then Some l.columns else type_of text outer

abbrev pub with_name : Scope → List ℕ → Columns → Scope
with_name outer name c = record { name = name; columns = c } ∷ outer

-- the names of a list, which have one type, each inside those before it
abbrev pub with_names : Scope → List Named → Columns → Scope
with_names outer [] c = outer
with_names outer (n ∷ ns) c = with_names (with_name outer n.name c) ns c

-- the names of declarations, whose bounds have these types in turn
abbrev pub with_decls : Scope → List (Decl Expr) → List Columns → Scope
with_decls outer (d ∷ ds) (c ∷ cs) = with_decls (with_names outer d.names c) ds cs
with_decls outer _ _ = outer

-- the names of a `let`, whose values have these types in turn
abbrev pub with_values : Scope → List (Binding Expr) → List Columns → Scope
with_values outer (b ∷ bs) (c ∷ cs) = with_values (with_name outer b.name c) bs cs
with_values outer _ _ = outer

abbrev pub scope_of : Locals → Scope
scope_of Empty = []
scope_of (One' name c p outer) = with_name (scope_of outer) name.now c.now
scope_of (Declared' ds cs p outer) = with_decls (scope_of outer) ds.now cs.now
scope_of (Bound' bs cs p outer) = with_values (scope_of outer) bs.now cs.now

-- what is said of a spot
abbrev pub at_of : Spot → At
at_of s = record { scopes = s.names.now.scopes; types = s.types.now; instance = s.instance; own = s.own.now; this = s.this.now; ground = s.ground; picks = picked_in s.picks.now }
