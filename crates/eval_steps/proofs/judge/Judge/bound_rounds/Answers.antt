use Rattle.std.proofs.Common.{subst}
use Rattle.core_tree.specs.Trees.{term_of}
use Rattle.eval_context.specs.Settings.{SettingValue}
use Rattle.eval_calls.specs.Weight.{AreWeighed}
use Rattle.eval_steps.proofs.Rounds.{bound_repeats}
use Rattle.eval_steps.proofs.judge.Judge.bound_rounds.Goals as goal

pub returns : goal.returns
returns c atoms n m few =
    bound_repeats c.args.self.now c.self.inside.weights.items (subst (λ (z : SettingValue). AreWeighed z.model.bodies c.self.inside.weights.items) c.self.view_is c.self.invariant) c.bodies-bodies.result.now c.bodies-bodies.ensures.now c.deref.result.now c.deref.ensures.value (term_of c.args.bound.now) n m atoms c.of_expr.result c.period.ensures.loops c.of_expr.ensures few
