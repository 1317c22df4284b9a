use Rattle.std.proofs.Common.{subst}
use Rattle.core_tree.specs.Trees.{claim_of}
use Rattle.eval_context.specs.Settings.{SettingValue}
use Rattle.eval_calls.specs.Weight.{AreWeighed}
use Rattle.eval_steps.proofs.Rounds.{fact_repeats}
use Rattle.eval_steps.proofs.judge.Judge.fact_rounds.Goals as goal

pub returns : goal.returns
returns c atoms few =
    fact_repeats c.args.self.now c.self.inside.weights.items (subst (λ (z : SettingValue). AreWeighed z.model.bodies c.self.inside.weights.items) c.self.view_is c.self.invariant) c.bodies-bodies.result.now c.bodies-bodies.ensures.now c.deref.result.now c.deref.ensures.value (claim_of c.args.fact.now) atoms c.of_formula.result c.period.ensures.loops c.of_formula.ensures few
