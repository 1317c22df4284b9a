-- The names in scope, the innermost first. A name's number is how many stand outside it.
use Rattle.std.specs.Prelude.{◌≡◌, ℕ, if◌then◌else◌, List, [], ◌∷◌, length, Option, Some, None}
use Rattle.std.specs.Str.{bytes_eq}
use Rattle.syntax_tree.specs.declared.expr.Named.{Named}
use Rattle.syntax_tree.specs.declared.expr.Decl.{Decl}
use Rattle.syntax_tree.specs.declared.expr.Binding.{Binding}
use Rattle.syntax_tree.specs.declared.expr.Expr.{Expr}
use Rattle.resolve_said.specs.declared.scope.Locals.{Locals, Empty, One', Declared', Bound'}
use Rattle.resolve_said.specs.declared.scope.Found.{Found}

-- each name as its text
abbrev pub Scope : Type 0
Scope = List (List ℕ)

-- the number of the innermost name that is written so
abbrev pub number_of : List ℕ → Scope → Option ℕ
number_of text [] = None
number_of text (name ∷ outer) = if bytes_eq name text then Some (length outer) else number_of text outer

-- the names of a list, each inside those before it
abbrev pub under_names : Scope → List Named → Scope
under_names outer [] = outer
under_names outer (n ∷ ns) = under_names (n.name ∷ outer) ns

abbrev pub under_decls : Scope → List (Decl Expr) → Scope
under_decls outer [] = outer
under_decls outer (d ∷ ds) = under_decls (under_names outer d.names) ds

abbrev pub under_values : Scope → List (Binding Expr) → Scope
under_values outer [] = outer
under_values outer (b ∷ bs) = under_values (b.name ∷ outer) bs

abbrev pub scope_of : Locals → Scope
scope_of Empty = []
scope_of (One' text p outer) = text.now ∷ scope_of outer
scope_of (Declared' ds p outer) = under_decls (scope_of outer) ds.now
scope_of (Bound' bs p outer) = under_values (scope_of outer) bs.now

-- what was found of a text among names: its number, and how many names there are
pub record IsFound (text : List ℕ) (scope : Scope) (f : Found) : Type 0 where
  pub number : f.number ≡ number_of text scope
  pub count : f.count ≡ length scope
