use Rattle.std.proofs.Common.{arith, ap, map, ◌∙◌}
use Rattle.std.specs.Prelude.{nat_le}
use Rattle.syntax_tree.specs.declared.expr.Decl.{Decl}
use Rattle.syntax_tree.specs.declared.expr.Expr.{Expr}
use Rattle.syntax_tree.specs.Depth.{deepest, depth_of}
use Rattle.syntax_expr.proofs.Places.{capped}
use Rattle.syntax_expr.proofs.parse.are_shallow.Goals as goal

pub returns : goal.returns
returns c =
    ap (λ d. nat_le d c.args.limit) c.deepest_bound-deepest.ensures ∙ capped (deepest (map (λ (d : Decl Expr). depth_of d.bound) c.args.decls.now)) 4294967295 c.args.limit (omega arith)
