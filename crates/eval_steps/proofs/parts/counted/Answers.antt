use Rattle.eval_steps.proofs.PartLaw.{counted_is}
use Rattle.eval_steps.proofs.parts.counted.Goals as goal

pub returns : goal.returns
returns c =
    counted_is c.setting-setting.result.now c.args.judge.now c.setting-setting.ensures c.set_of-x.result.now c.args.a.now c.set_of-x.ensures c.in_ok-set.set c.in_ok-set.ensures
