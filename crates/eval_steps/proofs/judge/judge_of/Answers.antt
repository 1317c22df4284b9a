use Rattle.std.proofs.Common.{sym, subst}
use Rattle.eval_context.specs.Settings.{SettingValue}
use Rattle.eval_calls.specs.Weight.{AreWeighed}
use Rattle.eval_steps.proofs.judge.judge_of.Goals as goal

pub invariant_of-result : goal.invariant_of-result
invariant_of-result c =
    subst (λ (z : SettingValue). AreWeighed z.model.bodies c.in-Some.weights.items) (sym c.in_ok-setting.ensures) (rw c.in-Some.is at c.in_ok-found.ensures)
