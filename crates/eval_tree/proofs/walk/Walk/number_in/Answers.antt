use Rattle.eval_steps.specs.Judged.{scope_names}
use Rattle.eval_tree.proofs.ListCases.{number_found}
use Rattle.eval_tree.proofs.walk.Walk.number_in.Goals as goal

pub returns : goal.returns
returns g c =
    number_found c.args.self.now.judge.now c.args.position (scope_names c.args.self.now.judge.now c.args.scope.now) c.args.expr.now c.in_ok-found.found c.in_ok-found.ensures c.setting-setting.result.now c.setting-setting.ensures c.set_of-set.result.now c.set_of-set.ensures _ c.number_of.result c.number_of.ensures.number
