use Rattle.core_tree.specs.Trees.{claim_of}
use Rattle.eval_steps.specs.Judged.{scope_names, HoldsIn, Says, SaysFirst}
use Rattle.eval_tree.proofs.FoundLemmas.{says_said, said_true, said_false}
use Rattle.eval_tree.proofs.TimeLaw.{none_passed, until_more, until_here, until_stops, until_ends, says_limit}
use Rattle.eval_tree.proofs.walk.Walk.forward.Goals as goal

pub loop-place-init : goal.loop-place-init
loop-place-init g c =
    none_passed (SaysFirst c.args.self.now.judge.now c.args.first c.args.sense (scope_names c.args.self.now.judge.now c.args.scope.now)) (λ j. Says c.args.sense (HoldsIn c.args.self.now.judge.now (claim_of c.args.second.now) (scope_names c.args.self.now.judge.now c.args.scope.now) j)) c.args.position

pub returns-then-here : goal.returns-then-here
returns-then-here g c =
    until_here (SaysFirst c.args.self.now.judge.now c.args.first c.args.sense (scope_names c.args.self.now.judge.now c.args.scope.now)) (λ j. Says c.args.sense (HoldsIn c.args.self.now.judge.now (claim_of c.args.second.now) (scope_names c.args.self.now.judge.now c.args.scope.now) j)) c.args.position c.loop-place.place c.loop-place.auto.place c.loop-place.invariant (said_true c.says-here.result (says_said c.args.sense c.in_ok-truth.truth c.says-here.result c.in_ok-truth.ensures c.says-here.ensures) c.if-here.true)

pub returns-then-not-on : goal.returns-then-not-on
returns-then-not-on g c =
    until_stops (SaysFirst c.args.self.now.judge.now c.args.first c.args.sense (scope_names c.args.self.now.judge.now c.args.scope.now)) (λ j. Says c.args.sense (HoldsIn c.args.self.now.judge.now (claim_of c.args.second.now) (scope_names c.args.self.now.judge.now c.args.scope.now) j)) c.args.position c.loop-place.place c.loop-place.auto.place c.loop-place.invariant (said_false c.in_ok-on.on c.in_ok-on.ensures c.if-not-on.true) (said_false c.says-here.result (says_said c.args.sense c.in_ok-truth.truth c.says-here.result c.in_ok-truth.ensures c.says-here.ensures) c.if-here.false)

pub loop-place-preserved : goal.loop-place-preserved
loop-place-preserved g c =
    until_more (SaysFirst c.args.self.now.judge.now c.args.first c.args.sense (scope_names c.args.self.now.judge.now c.args.scope.now)) (λ j. Says c.args.sense (HoldsIn c.args.self.now.judge.now (claim_of c.args.second.now) (scope_names c.args.self.now.judge.now c.args.scope.now) j)) c.args.position c.loop-place.place c.loop-place.invariant (said_true c.in_ok-on.on c.in_ok-on.ensures c.if-not-on.false) (said_false c.says-here.result (says_said c.args.sense c.in_ok-truth.truth c.says-here.result c.in_ok-truth.ensures c.says-here.ensures) c.if-here.false)

pub returns : goal.returns
returns g c =
    until_ends (SaysFirst c.args.self.now.judge.now c.args.first c.args.sense (scope_names c.args.self.now.judge.now c.args.scope.now)) (λ j. Says c.args.sense (HoldsIn c.args.self.now.judge.now (claim_of c.args.second.now) (scope_names c.args.self.now.judge.now c.args.scope.now) j)) c.args.position c.in_ok-end.end c.loop-place.place (says_limit c.args.sense (λ j. HoldsIn c.args.self.now.judge.now (claim_of c.args.second.now) (scope_names c.args.self.now.judge.now c.args.scope.now) j) c.args.position c.in_ok-end.end c.in_ok-end.ensures) c.loop-place-test.false c.loop-place.invariant
