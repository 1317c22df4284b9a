use Rattle.std.proofs.Common.{[], map, arith}
use Rattle.core_tree.specs.Trees.{variable_of, variable_list}
use Rattle.eval_steps.specs.Judged.{scope_names}
use Rattle.eval_tree.proofs.RowLaw.{rows_few}
use Rattle.eval_tree.proofs.walk.Walk.every_row.Goals as goal

pub returns : goal.returns
returns g c =
    rows_few c.args.self.now.judge.now c.args.goal.now (variable_list (map variable_of c.args.variables.now)) (scope_names c.args.self.now.judge.now c.args.scope.now) c.args.position [] _ c.in_ok-rows.rows.items (omega arith) c.in_ok-rows.ensures
