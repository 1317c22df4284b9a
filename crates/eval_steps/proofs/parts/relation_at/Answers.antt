use Rattle.eval_steps.proofs.PartLaw.{none_is}
use Rattle.eval_steps.proofs.parts.relation_at.Goals as goal

pub returns-in-None : goal.returns-in-None
returns-in-None c =
    none_is c.setting-setting.result.now c.args.judge.now c.setting-setting.ensures c.args.number c.args.position c.empty_of.result c.empty_of.ensures c.in-None.ensures.none
