use Rattle.core_tree.specs.Trees.{claim_of}
use Rattle.eval_steps.specs.Judged.{scope_names, HoldsIn, Says, SaysFirst}
use Rattle.eval_tree.proofs.TimeLaw.{Passed}
use Rattle.eval_tree.proofs.walk.Walk.forward.Given as goal

abbrev pub invariant-loop-place : goal.invariant-loop-place
invariant-loop-place g l = Passed (SaysFirst l.self.judge.now l.first l.sense (scope_names l.self.judge.now l.scope)) (λ j. Says l.sense (HoldsIn l.self.judge.now (claim_of l.second) (scope_names l.self.judge.now l.scope) j)) l.position l.place
