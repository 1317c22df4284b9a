use Rattle.eval_steps.proofs.PartLaw.{integers_are}
use Rattle.eval_steps.proofs.parts.integers_at.Goals as goal

pub returns : goal.returns
returns c =
    integers_are c.setting-setting.result.now c.args.judge.now c.setting-setting.ensures c.in_ok-set.set c.in_ok-set.ensures
