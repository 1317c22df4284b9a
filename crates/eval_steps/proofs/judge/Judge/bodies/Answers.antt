use Rattle.std.proofs.Common.{subst}
use Rattle.eval_context.specs.Settings.{SettingValue}
use Rattle.eval_steps.specs.Judged.{HasWeights}
use Rattle.eval_steps.proofs.judge.Judge.bodies.Goals as goal

pub returns-clause-weighed : goal.returns-clause-weighed
returns-clause-weighed c =
    subst (λ (z : SettingValue). HasWeights z) c.self.view_is (c.self.inside.weights.items, c.self.invariant)
