use Rattle.eval_context.specs.Settings.{SettingValue}
use Rattle.std.proofs.Common.{IfOk, subst}
use Rattle.eval_trace.specs.Asked.{AllAre, IsFirstWithout}
use Rattle.eval_trace.proofs.declarations.first_of_model.Goals as goal

pub returns : goal.returns
returns c =
    subst (λ (s : SettingValue). IfOk c.first_failing.result (λ o. IsFirstWithout (AllAre s) o)) c.in_ok-judge.ensures c.first_failing.ensures
