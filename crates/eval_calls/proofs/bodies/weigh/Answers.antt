use Rattle.std.proofs.Common.{ℕ, List, subst}
use Rattle.eval_calls.specs.Weight.{AreWeighed}
use Rattle.eval_calls.proofs.bodies.weigh.Goals as goal

pub returns-then-are_weighed : goal.returns-then-are_weighed
returns-then-are_weighed c = subst (λ (ws : List ℕ). AreWeighed c.args.bodies.now ws) c.deref.ensures.value (c.are_weighed.ensures c.if-are_weighed.true)
