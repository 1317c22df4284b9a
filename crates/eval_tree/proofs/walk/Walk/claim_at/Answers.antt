use Rattle.eval_steps.specs.Judged.{scope_names}
use Rattle.eval_tree.proofs.CallLaw.{call_true}
use Rattle.eval_tree.proofs.FoundLemmas.{said_true, said_false}
use Rattle.eval_tree.proofs.Cases.{inside_case, equal_case, within_case, test_case, compare_case, not_case, every_case, for_all_case, counted_case, choose_yes_true, choose_no_true}
use Rattle.eval_tree.proofs.walk.Walk.claim_at.Goals as goal

pub returns-in_ok-y-in-Inside : goal.returns-in_ok-y-in-Inside
returns-in_ok-y-in-Inside g c =
    rw c.in-Inside.is (inside_case c.args.self.now.judge.now (scope_names c.args.self.now.judge.now c.args.scope.now) c.args.position c.in-Inside.a c.in-Inside.b c.deref.result.now c.deref-in-Inside.result.now c.deref.ensures c.deref-in-Inside.ensures c.in_ok-x-in-Inside.x c.in_ok-y-in-Inside.y c.in_ok-x-in-Inside.ensures c.in_ok-y-in-Inside.ensures c.is_inside.result c.is_inside.ensures)

pub returns-in_ok-y-in-Equal : goal.returns-in_ok-y-in-Equal
returns-in_ok-y-in-Equal g c =
    rw c.in-Equal.is (equal_case c.args.self.now.judge.now (scope_names c.args.self.now.judge.now c.args.scope.now) c.args.position c.in-Equal.a c.in-Equal.b c.deref-in-Equal.result.now c.deref-in-Equal-2.result.now c.deref-in-Equal.ensures c.deref-in-Equal-2.ensures c.in_ok-x-in-Equal.x c.in_ok-y-in-Equal.y c.in_ok-x-in-Equal.ensures c.in_ok-y-in-Equal.ensures c.is_equal.result c.is_equal.ensures)

pub returns-in_ok-x-in-Within : goal.returns-in_ok-x-in-Within
returns-in_ok-x-in-Within g c =
    rw c.in-Within.is (within_case c.args.self.now.judge.now (scope_names c.args.self.now.judge.now c.args.scope.now) c.args.position c.in-Within.a c.deref-in-Within.result.now c.deref-in-Within.ensures c.in_ok-x-in-Within.x c.in_ok-x-in-Within.ensures c.in-Within.word c.in-Within.b c.deref-in-Within-2.result.now c.deref-in-Within-2.ensures c.set_of-set.result.now c.set_of-set.ensures _ c.is_within.result c.is_within.ensures)

pub returns-in_ok-x-in-Test : goal.returns-in_ok-x-in-Test
returns-in_ok-x-in-Test g c =
    rw c.in-Test.is (test_case c.args.self.now.judge.now (scope_names c.args.self.now.judge.now c.args.scope.now) c.args.position c.in-Test.a c.deref-in-Test.result.now c.deref-in-Test.ensures c.in_ok-x-in-Test.x c.in_ok-x-in-Test.ensures c.in-Test.quantity c.has.result c.has.ensures)

pub returns-in_ok-y-in-Compare : goal.returns-in_ok-y-in-Compare
returns-in_ok-y-in-Compare g c =
    rw c.in-Compare.is (compare_case c.args.self.now.judge.now (scope_names c.args.self.now.judge.now c.args.scope.now) c.args.position c.in-Compare.a c.in-Compare.b c.deref-in-Compare.result.now c.deref-in-Compare-2.result.now c.deref-in-Compare.ensures c.deref-in-Compare-2.ensures c.in_ok-x-in-Compare.x c.in_ok-y-in-Compare.y c.in_ok-x-in-Compare.ensures c.in_ok-y-in-Compare.ensures c.in-Compare.op _ c.compared.result c.compared.ensures)

pub returns-in_ok-truth-in-Not : goal.returns-in_ok-truth-in-Not
returns-in_ok-truth-in-Not g c =
    rw c.in-Not.is (not_case c.args.self.now.judge.now (scope_names c.args.self.now.judge.now c.args.scope.now) c.args.position c.in-Not.f c.deref-in-Not.result.now c.deref-in-Not.ensures c.in_ok-truth-in-Not.truth c.in_ok-truth-in-Not.ensures)

pub returns-in-Every : goal.returns-in-Every
returns-in-Every g c =
    rw c.in-Every.is (every_case c.args.self.now.judge.now (scope_names c.args.self.now.judge.now c.args.scope.now) c.args.position c.in-Every.list c.deref-in-Every.result.now c.deref-in-Every.ensures.value _ c.every.result c.every.ensures)

pub returns-in-Connect : goal.returns-in-Connect
returns-in-Connect g c =
    rw c.in-Connect.is (rw c.deref-in-Connect-2.ensures at (rw c.deref-in-Connect.ensures at c.connect.ensures))

pub returns-then-chosen : goal.returns-then-chosen
returns-then-chosen g c =
    rw c.in-Choose.is (choose_yes_true c.args.self.now.judge.now (scope_names c.args.self.now.judge.now c.args.scope.now) c.args.position c.in-Choose.f c.in-Choose.g c.in-Choose.h c.deref-in-Choose.result.now c.deref-then-chosen.result.now c.deref-in-Choose.ensures c.deref-then-chosen.ensures (said_true c.in_ok-chosen-in-Choose.chosen c.in_ok-chosen-in-Choose.ensures c.if-chosen.true) _ c.holds-then-chosen.result c.holds-then-chosen.ensures)

pub returns-else-chosen : goal.returns-else-chosen
returns-else-chosen g c =
    rw c.in-Choose.is (choose_no_true c.args.self.now.judge.now (scope_names c.args.self.now.judge.now c.args.scope.now) c.args.position c.in-Choose.f c.in-Choose.g c.in-Choose.h c.deref-in-Choose.result.now c.deref-in-Choose-2.result.now c.deref-in-Choose.ensures c.deref-in-Choose-2.ensures (said_false c.in_ok-chosen-in-Choose.chosen c.in_ok-chosen-in-Choose.ensures c.if-chosen.false) _ c.holds-in-Choose-2.result c.holds-in-Choose-2.ensures)

pub returns-in-ForAll : goal.returns-in-ForAll
returns-in-ForAll g c =
    rw c.in-ForAll.is (for_all_case c.args.self.now.judge.now (scope_names c.args.self.now.judge.now c.args.scope.now) c.args.position c.in-ForAll.variables c.in-ForAll.f c.deref-in-ForAll.result.now c.deref-in-ForAll-2.result.now c.deref-in-ForAll.ensures.value c.deref-in-ForAll-2.ensures _ c.for_each.result c.for_each.ensures)

pub returns-in-Counted : goal.returns-in-Counted
returns-in-Counted g c =
    rw c.in-Counted.is (counted_case c.args.self.now.judge.now (scope_names c.args.self.now.judge.now c.args.scope.now) c.args.position c.in-Counted.quantity c.in-Counted.variables c.in-Counted.f c.deref-in-Counted.result.now c.deref-in-Counted-2.result.now c.deref-in-Counted.ensures.value c.deref-in-Counted-2.ensures _ c.quantified.result c.quantified.ensures)

pub returns-in-Temporal : goal.returns-in-Temporal
returns-in-Temporal g c =
    rw c.in-Temporal.is (rw c.deref-in-Temporal.ensures at c.temporal.ensures)

pub returns-in-TemporalPair : goal.returns-in-TemporalPair
returns-in-TemporalPair g c =
    rw c.in-TemporalPair.is (rw c.deref-in-TemporalPair-2.ensures at (rw c.deref-in-TemporalPair.ensures at c.temporal_pair.ensures))

pub returns-in-Let : goal.returns-in-Let
returns-in-Let g c =
    rw c.in-Let.is (rw c.deref-in-Let-2.ensures at (rw c.deref-in-Let.ensures at c.holds-in-Let.ensures))

pub returns-in-Call : goal.returns-in-Call
returns-in-Call g c =
    rw c.in-Call.is (call_true c.args.self.now.judge.now c.bodies.ensures.weighed c.in-Call.body c.in-Call.arguments (scope_names c.args.self.now.judge.now c.args.scope.now) c.args.position _ c.enter_claim.result (rw c.deref-in-Call.ensures.value at c.enter_claim.ensures))
