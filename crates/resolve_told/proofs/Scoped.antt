-- The parameters of a predicate or function and the names in its body, put together from what the code finds of them.
use Rattle.std.proofs.Common.{◌≡◌, ◌∙◌, Bool, List, ◌++◌, Option, ap, subst}
use Rattle.std.specs.Prelude.{option_map, is_some}
use Rattle.syntax_tree.specs.declared.expr.Decl.{Decl}
use Rattle.syntax_tree.specs.declared.expr.Expr.{Expr}
use Rattle.syntax_tree.specs.declared.module.Parameters.{Parameters}
use Rattle.syntax_tree.specs.declared.module.SigName.{SigName}
use Rattle.resolve_said.specs.Locals.{Scope, under_decls}
use Rattle.resolve_told.specs.Parameters.{as_expr, decls_of}
use Rattle.resolve_told.specs.Bodies.{Declared, this_by, this_scope, named_by, parameters_of, scope_in}

pub parameters_are : (all : List Declared) (has_this : Bool) (tree : Option Expr) (receiver : Option SigName) (ps : Option Parameters) →
    has_this ≡ is_some receiver → tree ≡ option_map as_expr receiver → all ≡ this_by tree ++ named_by (this_scope has_this) (decls_of ps) → all ≡ parameters_of receiver ps
parameters_are all has_this tree receiver ps there made are =
    are ∙ (ap (λ t. this_by t ++ named_by (this_scope has_this) (decls_of ps)) made ∙ ap (λ b. this_by (option_map as_expr receiver) ++ named_by (this_scope b) (decls_of ps)) there)

pub scoped : (P : Scope → Type 0) (has_this : Bool) (decls : List (Decl Expr)) (receiver : Option SigName) (ps : Option Parameters) →
    has_this ≡ is_some receiver → decls ≡ decls_of ps → P (under_decls (this_scope has_this) decls) → P (scope_in receiver ps)
scoped P has_this decls receiver ps there are p =
    subst (λ b. P (under_decls (this_scope b) (decls_of ps))) there (subst (λ ds. P (under_decls (this_scope has_this) ds)) are p)
