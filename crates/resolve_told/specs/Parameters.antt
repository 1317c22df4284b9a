-- What stands before the dot of a predicate or function, and in its brackets.
use Rattle.std.specs.Prelude.{List, [], Option, Some, None}
use Rattle.syntax_tree.specs.declared.operator.Constant.TheVariants as constant
use Rattle.syntax_tree.specs.declared.expr.Decl.{Decl}
use Rattle.syntax_tree.specs.declared.expr.Expr.{Expr}
use Rattle.syntax_tree.specs.declared.expr.Expr.TheVariants as expr
use Rattle.syntax_tree.specs.declared.module.SigName.{SigName}
use Rattle.syntax_tree.specs.declared.module.SigName.TheVariants as written
use Rattle.syntax_tree.specs.declared.module.Parameters.{Parameters}

-- the name of a sig as an expression
abbrev pub as_expr : SigName → Expr
as_expr (written.Int place) = expr.Constant place constant.Int
as_expr (written.Name q) = expr.Name q

-- what stands in brackets
abbrev pub decls_of : Option Parameters → List (Decl Expr)
decls_of None = []
decls_of (Some ps) = ps.decls
