use Rattle.std.proofs.Common.{arith, ap, ◌∙◌}
use Rattle.std.specs.Prelude.{nat_le}
use Rattle.syntax_tree.specs.Depth.{depth_of}
use Rattle.syntax_expr.proofs.Places.{capped}
use Rattle.syntax_expr.proofs.parse.is_shallow.Goals as goal

pub returns : goal.returns
returns c = ap (λ d. nat_le d c.args.limit) c.depth-depth.ensures ∙ capped (depth_of c.args.tree.now) 4294967295 c.args.limit (omega arith)
