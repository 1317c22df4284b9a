use Rattle.eval_steps.proofs.PartLaw.{compared_is}
use Rattle.eval_steps.proofs.parts.compared.Goals as goal

pub returns : goal.returns
returns c =
    compared_is c.setting-setting.result.now c.args.judge.now c.setting-setting.ensures c.set_of-x.result.now c.args.a.now c.set_of-x.ensures c.set_of-y.result.now c.args.b.now c.set_of-y.ensures c.args.op _ c.compare.result c.compare.ensures
