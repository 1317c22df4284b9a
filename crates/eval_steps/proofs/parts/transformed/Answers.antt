use Rattle.eval_steps.proofs.PartLaw.{transformed_is}
use Rattle.eval_steps.proofs.parts.transformed.Goals as goal

pub returns : goal.returns
returns c =
    transformed_is c.setting-setting.result.now c.args.judge.now c.setting-setting.ensures c.set_of-x.result.now c.args.a.now c.set_of-x.ensures c.args.op c.args.position c.in_ok-set.set c.in_ok-set.ensures
