use Rattle.std.proofs.Common.{◌↔◌, IsTrue, inl, inr, arith}
use Rattle.core_meaning.specs.Operators.{SinceAt}
use Rattle.core_tree.specs.Trees.{claim_of}
use Rattle.eval_steps.specs.Judged.{scope_names, HoldsIn, Says, SaysFirst}
use Rattle.eval_tree.proofs.FoundLemmas.{if_ok_to, says_said, said_true, said_false}
use Rattle.eval_tree.proofs.TimeLaw.{since_here, since_stops, since_back}
use Rattle.core_window.proofs.SameLemmas.{same_trans}
use Rattle.eval_tree.proofs.walk.Walk.+backward.Goals as goal

pub returns-then-here : goal.returns-then-here
returns-then-here g t c =
    since_here (SaysFirst c.args.self.now.judge.now c.args.first c.args.sense (scope_names c.args.self.now.judge.now c.args.scope.now)) (λ j. Says c.args.sense (HoldsIn c.args.self.now.judge.now (claim_of c.args.second.now) (scope_names c.args.self.now.judge.now c.args.scope.now) j)) c.args.position (said_true c.says-here.result (says_said c.args.sense c.in_ok-truth.truth c.says-here.result c.in_ok-truth.ensures c.says-here.ensures) c.if-here.true)

pub returns-then-position-eq0 : goal.returns-then-position-eq0
returns-then-position-eq0 g t c =
    since_stops (SaysFirst c.args.self.now.judge.now c.args.first c.args.sense (scope_names c.args.self.now.judge.now c.args.scope.now)) (λ j. Says c.args.sense (HoldsIn c.args.self.now.judge.now (claim_of c.args.second.now) (scope_names c.args.self.now.judge.now c.args.scope.now) j)) c.args.position (said_false c.says-here.result (says_said c.args.sense c.in_ok-truth.truth c.says-here.result c.in_ok-truth.ensures c.says-here.ensures) c.if-here.false) (inl c.if-position-eq0.true)

pub returns-then-not-on : goal.returns-then-not-on
returns-then-not-on g t c =
    since_stops (SaysFirst c.args.self.now.judge.now c.args.first c.args.sense (scope_names c.args.self.now.judge.now c.args.scope.now)) (λ j. Says c.args.sense (HoldsIn c.args.self.now.judge.now (claim_of c.args.second.now) (scope_names c.args.self.now.judge.now c.args.scope.now) j)) c.args.position (said_false c.says-here.result (says_said c.args.sense c.in_ok-truth.truth c.says-here.result c.in_ok-truth.ensures c.says-here.ensures) c.if-here.false) (inr (said_false c.in_ok-on.on c.in_ok-on.ensures c.if-not-on.true))

pub returns : goal.returns
returns g t c =
    if_ok_to _ (λ b. IsTrue b ↔ SinceAt (SaysFirst c.args.self.now.judge.now c.args.first c.args.sense (scope_names c.args.self.now.judge.now c.args.scope.now)) (λ j. Says c.args.sense (HoldsIn c.args.self.now.judge.now (claim_of c.args.second.now) (scope_names c.args.self.now.judge.now c.args.scope.now) j)) c.args.position) (λ b k. same_trans k (since_back (SaysFirst c.args.self.now.judge.now c.args.first c.args.sense (scope_names c.args.self.now.judge.now c.args.scope.now)) (λ j. Says c.args.sense (HoldsIn c.args.self.now.judge.now (claim_of c.args.second.now) (scope_names c.args.self.now.judge.now c.args.scope.now) j)) c.args.position (omega arith) (said_true c.in_ok-on.on c.in_ok-on.ensures c.if-not-on.false) (said_false c.says-here.result (says_said c.args.sense c.in_ok-truth.truth c.says-here.result c.in_ok-truth.ensures c.says-here.ensures) c.if-here.false))) c.backward.result c.backward.ensures
