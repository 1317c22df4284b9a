use Rattle.std.proofs.Common.{rules, w64, SFits}
use Rattle.std.proofs.lemmas.Int.{to_z-of_z}
use Rattle.eval_steps.specs.Judged.{scope_names}
use Rattle.eval_tree.proofs.FoundLemmas.{said_true, said_false}
use Rattle.eval_tree.proofs.RowLaw.{last_passes, last_fails, last_value}
use Rattle.eval_tree.proofs.walk.Walk.last_row.Goals as goal

pub returns-then-passes : goal.returns-then-passes
returns-then-passes g c =
    λ earlier most. rw c.in-Passes.is (last_passes c.args.self.now.judge.now (scope_names c.args.self.now.judge.now c.args.scope.now) c.args.position earlier most c.in-Passes.formula c.in_ok-first_row-in-Passes.field-0.items (said_true c.in_ok-passes-in-Passes.passes c.in_ok-passes-in-Passes.ensures c.if-passes.true) c.in_ok-first_row-in-Passes.ensures)

pub returns-else-passes : goal.returns-else-passes
returns-else-passes g c =
    λ earlier most. rw c.in-Passes.is (last_fails c.args.self.now.judge.now (scope_names c.args.self.now.judge.now c.args.scope.now) c.args.position earlier most c.in-Passes.formula c.new.result.items (said_false c.in_ok-passes-in-Passes.passes c.in_ok-passes-in-Passes.ensures c.if-passes.false) c.new.ensures.items)

pub returns-in_ok-first_row-in-Value : goal.returns-in_ok-first_row-in-Value
returns-in_ok-first_row-in-Value g c =
    let f : SFits w64 c.in_ok-value-in-Value.value = search rules in
    let told = simp to_z-of_z at c.in_ok-first_row-in-Value.ensures in
    λ earlier most. rw c.in-Value.is (last_value c.args.self.now.judge.now (scope_names c.args.self.now.judge.now c.args.scope.now) c.args.position earlier most c.in-Value.expr c.in_ok-value-in-Value.value c.in_ok-first_row-in-Value.field-0.items c.in_ok-value-in-Value.ensures told)
