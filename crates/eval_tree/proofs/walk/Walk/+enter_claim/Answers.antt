use Rattle.std.proofs.Common.{arith, ◌≡◌, []}
use Rattle.std.proofs.lemmas.List.{nil_from_length}
use Rattle.eval_sets.specs.declared.fault.EvaluationFault.{EvaluationFault}
use Rattle.eval_steps.specs.Judged.{scope_names}
use Rattle.eval_tree.proofs.ListCases.{enter_more_claim, no_body_claim, value_body_claim, test_body_claim}
use Rattle.eval_tree.proofs.walk.Walk.+enter_claim.Goals as goal

pub returns-in_ok-next_name-in-Some : goal.returns-in_ok-next_name-in-Some
returns-in_ok-next_name-in-Some g t c =
    enter_more_claim c.args.self.now.judge.now c.args.position c.args.body (scope_names c.args.self.now.judge.now c.args.outer.now) (scope_names c.args.self.now.judge.now c.args.inner.now) c.args.from c.args.arguments.now c.in_ok-next_name-in-Some.field-0 c.in_ok-next_name-in-Some.ensures c.in-Some.first.now c.in-Some.rest.now c.in-Some.ensures.cases.0 _ c.enter_claim.result c.enter_claim.ensures

pub returns-then-body-len : goal.returns-then-body-len
returns-then-body-len g t c =
    let none : c.args.arguments.now ≡ [] = nil_from_length _ c.in-None.ensures.cases in
    no_body_claim c.args.self.now.judge.now c.args.body (scope_names c.args.self.now.judge.now c.args.outer.now) (scope_names c.args.self.now.judge.now c.args.inner.now) c.args.from c.args.position c.args.arguments.now none c.bodies-list.result.now c.bodies-list.ensures.now EvaluationFault (omega arith)

pub returns-in-Term : goal.returns-in-Term
returns-in-Term g t c =
    let none : c.args.arguments.now ≡ [] = nil_from_length _ c.in-None.ensures.cases in
    value_body_claim c.args.self.now.judge.now c.args.body (scope_names c.args.self.now.judge.now c.args.outer.now) (scope_names c.args.self.now.judge.now c.args.inner.now) c.args.from c.args.position c.args.arguments.now none c.bodies-list.result.now c.bodies-list.ensures.now EvaluationFault c.get.result.now c.get.ensures c.in-Term.field-0 _ c.in-Term.is

pub returns-in-Test : goal.returns-in-Test
returns-in-Test g t c =
    let none : c.args.arguments.now ≡ [] = nil_from_length _ c.in-None.ensures.cases in
    test_body_claim c.args.self.now.judge.now c.args.body (scope_names c.args.self.now.judge.now c.args.outer.now) (scope_names c.args.self.now.judge.now c.args.inner.now) c.args.from c.args.position c.args.arguments.now none c.bodies-list.result.now c.bodies-list.ensures.now EvaluationFault c.holds.result c.get.result.now c.get.ensures c.in-Test.f c.in-Test.is c.holds.ensures
