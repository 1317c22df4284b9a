use Rattle.std.proofs.lemmas.List.{nil_from_length}
use Rattle.eval_steps.specs.Judged.{scope_names}
use Rattle.eval_tree.proofs.FoundLemmas.{said_true, said_false}
use Rattle.eval_tree.proofs.ListCases.{every_none, every_fails, every_more}
use Rattle.eval_tree.proofs.walk.Walk.+every.Goals as goal

pub returns-in-None : goal.returns-in-None
returns-in-None g t c =
    every_none c.args.self.now.judge.now (scope_names c.args.self.now.judge.now c.args.scope.now) c.args.position c.args.list.now (nil_from_length _ c.in-None.ensures.cases)

pub returns-then-not-truth : goal.returns-then-not-truth
returns-then-not-truth g t c =
    every_fails c.args.self.now.judge.now (scope_names c.args.self.now.judge.now c.args.scope.now) c.args.position c.args.list.now c.in-Some.first.now c.in-Some.rest.now c.in-Some.ensures.cases.0 (said_false c.in_ok-truth-in-Some.truth c.in_ok-truth-in-Some.ensures c.if-not-truth.true)

pub returns-else-not-truth : goal.returns-else-not-truth
returns-else-not-truth g t c =
    every_more c.args.self.now.judge.now (scope_names c.args.self.now.judge.now c.args.scope.now) c.args.position c.args.list.now c.in-Some.first.now c.in-Some.rest.now c.in-Some.ensures.cases.0 (said_true c.in_ok-truth-in-Some.truth c.in_ok-truth-in-Some.ensures c.if-not-truth.false) _ c.every.result c.every.ensures
