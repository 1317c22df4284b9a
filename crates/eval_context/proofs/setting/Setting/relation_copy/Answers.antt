use Rattle.core_meaning.specs.World.{InRelation}
use Rattle.eval_context.specs.Settings.{world}
use Rattle.eval_context.proofs.SetLaw.{nothing_is}
use Rattle.eval_context.proofs.setting.Setting.relation_copy.Goals as goal

pub returns-in-None : goal.returns-in-None
returns-in-None c =
    nothing_is c.empty_of.result (InRelation (world c.args.self.now) c.args.number c.args.position) c.empty_of.ensures c.in-None.ensures.none
