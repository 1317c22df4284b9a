use Rattle.eval_steps.proofs.PartLaw.{universe_is}
use Rattle.eval_steps.proofs.parts.universe_at.Goals as goal

pub returns : goal.returns
returns c =
    universe_is c.setting-setting.result.now c.args.judge.now c.setting-setting.ensures c.args.position c.in_ok-set.set c.in_ok-set.ensures
