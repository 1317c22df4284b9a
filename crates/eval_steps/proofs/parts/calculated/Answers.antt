use Rattle.eval_steps.proofs.PartLaw.{calculated_is}
use Rattle.eval_steps.proofs.parts.calculated.Goals as goal

pub returns : goal.returns
returns c =
    calculated_is c.setting-setting.result.now c.args.judge.now c.setting-setting.ensures c.set_of-x.result.now c.args.a.now c.set_of-x.ensures c.set_of-y.result.now c.args.b.now c.set_of-y.ensures c.args.op c.in_ok-set.set c.in_ok-set.ensures
