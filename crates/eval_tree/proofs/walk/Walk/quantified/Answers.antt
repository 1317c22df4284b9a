use Rattle.std.proofs.Common.{map, refl, rules, tests}
use Rattle.core_tree.specs.Trees.{variable_of, variable_list}
use Rattle.eval_steps.specs.Judged.{scope_names}
use Rattle.eval_tree.proofs.ListCases.{quantified_some, quantified_one, quantified_lone}
use Rattle.eval_tree.proofs.walk.Walk.quantified.Goals as goal

pub returns-in_ok-for_each-in-Some : goal.returns-in_ok-for_each-in-Some
returns-in_ok-for_each-in-Some g c =
    rw c.in-Some.is (quantified_some c.args.self.now.judge.now (scope_names c.args.self.now.judge.now c.args.scope.now) c.args.position (variable_list (map variable_of c.args.variables.now)) c.args.formula.now c.in_ok-for_each-in-Some.field-0 c.in_ok-for_each-in-Some.ensures)

pub returns-in-No : goal.returns-in-No
returns-in-No g c =
    rw c.in-No.is c.for_each-in-No.ensures

pub returns-in_ok-rows-in-One : goal.returns-in_ok-rows-in-One
returns-in_ok-rows-in-One g c =
    rw c.in-One.is (quantified_one c.args.self.now.judge.now (scope_names c.args.self.now.judge.now c.args.scope.now) c.args.position (variable_list (map variable_of c.args.variables.now)) c.args.formula.now c.args.formula refl c.in_ok-rows-in-One.rows.items c.in_ok-rows-in-One.ensures _ (search (rules, tests)))

pub returns-in_ok-rows-in-Lone : goal.returns-in_ok-rows-in-Lone
returns-in_ok-rows-in-Lone g c =
    rw c.in-Lone.is (quantified_lone c.args.self.now.judge.now (scope_names c.args.self.now.judge.now c.args.scope.now) c.args.position (variable_list (map variable_of c.args.variables.now)) c.args.formula.now c.args.formula refl c.in_ok-rows-in-Lone.rows.items c.in_ok-rows-in-Lone.ensures _ (search (rules, tests)))
