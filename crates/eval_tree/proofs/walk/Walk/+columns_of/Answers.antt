use Rattle.core_tree.specs.Trees.{term_of}
use Rattle.eval_steps.specs.Judged.{scope_names}
use Rattle.eval_tree.proofs.ListCases.{columns_product, columns_other}
use Rattle.eval_tree.proofs.walk.Walk.+columns_of.Goals as goal

pub returns-in-Some : goal.returns-in-Some
returns-in-Some g t c =
    columns_product c.args.self.now.judge.now (scope_names c.args.self.now.judge.now c.args.scope.now) c.args.position (term_of c.args.expr.now) (term_of c.in-Sides.a.now) (term_of c.in-Sides.b.now) _ _ (rw c.in-Sides.is at c.arrow_of.ensures) c.in_ok-left-in-Sides.left c.in_ok-right-in-Sides.right c.in-Some.columns c.in_ok-left-in-Sides.ensures c.in_ok-right-in-Sides.ensures c.in-Some.ensures.1

pub returns-in_ok-found-in-Other : goal.returns-in_ok-found-in-Other
returns-in_ok-found-in-Other g t c =
    columns_other c.args.self.now.judge.now (scope_names c.args.self.now.judge.now c.args.scope.now) c.args.position c.args.expr.now c.in_ok-found-in-Other.found c.in_ok-found-in-Other.ensures c.set_of-set.result.now c.set_of-set.ensures c.arity.result c.arity.ensures.columns c.arity.ensures.set
