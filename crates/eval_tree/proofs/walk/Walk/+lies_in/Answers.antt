use Rattle.core_tree.specs.Trees.{term_of}
use Rattle.eval_steps.specs.Judged.{scope_names}
use Rattle.eval_tree.proofs.FoundLemmas.{said_true, said_false}
use Rattle.eval_tree.proofs.ListCases.{product_fails, product_inside, other_inside, read_set}
use Rattle.eval_tree.proofs.walk.Walk.+lies_in.Goals as goal

pub returns-then-not-begins : goal.returns-then-not-begins
returns-then-not-begins g t c =
    product_fails c.args.self.now.judge.now (scope_names c.args.self.now.judge.now c.args.scope.now) c.args.position c.args.set.now c.in_ok-left-in-Sides.left c.in_ok-right-in-Sides.right (term_of c.args.expr.now) (term_of c.in-Sides.a.now) (term_of c.in-Sides.b.now) _ _ (rw c.in-Sides.is at c.arrow_of.ensures) c.in_ok-columns-in-Sides.columns c.in_ok-columns-in-Sides.ensures (c.is_long.ensures c.if-not-is_long.false) c.in_ok-left-in-Sides.ensures c.in_ok-right-in-Sides.ensures (said_false c.in_ok-begins-in-Sides.begins c.in_ok-begins-in-Sides.ensures c.if-not-begins.true)

pub returns-else-not-begins : goal.returns-else-not-begins
returns-else-not-begins g t c =
    product_inside c.args.self.now.judge.now (scope_names c.args.self.now.judge.now c.args.scope.now) c.args.position c.args.set.now c.in_ok-left-in-Sides.left c.in_ok-right-in-Sides.right (term_of c.args.expr.now) (term_of c.in-Sides.a.now) (term_of c.in-Sides.b.now) _ _ (rw c.in-Sides.is at c.arrow_of.ensures) c.in_ok-columns-in-Sides.columns c.in_ok-columns-in-Sides.ensures (c.is_long.ensures c.if-not-is_long.false) c.in_ok-left-in-Sides.ensures c.in_ok-right-in-Sides.ensures (said_true c.in_ok-begins-in-Sides.begins c.in_ok-begins-in-Sides.ensures c.if-not-begins.false) _ c.lies_in-in-Sides.result c.lies_in-in-Sides.ensures

pub returns-in_ok-found-in-Other : goal.returns-in_ok-found-in-Other
returns-in_ok-found-in-Other g t c =
    other_inside c.args.self.now.judge.now (scope_names c.args.self.now.judge.now c.args.scope.now) c.args.position c.args.set.now c.set_of-other.result.now c.args.expr.now (read_set c.args.self.now.judge.now (scope_names c.args.self.now.judge.now c.args.scope.now) c.args.position c.args.expr.now c.in_ok-found-in-Other.found c.in_ok-found-in-Other.ensures c.set_of-other.result.now c.set_of-other.ensures) c.inside.result c.inside.ensures
