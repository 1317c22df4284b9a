use Rattle.core_meaning.specs.World.{InRelation}
use Rattle.eval_context.specs.Settings.{world}
use Rattle.eval_scopes.proofs.PlaceLaw.{inside_set, inside_none}
use Rattle.eval_scopes.proofs.places.has_all.Goals as goal

pub returns-in-Some : goal.returns-in-Some
returns-in-Some c =
    inside_set c.inside.result c.args.all.now c.in-Some.set.now (InRelation (world c.args.setting.now) c.args.number c.args.position) c.in-Some.ensures.some c.inside.ensures

pub returns-in-None : goal.returns-in-None
returns-in-None c =
    inside_none c.is_empty.result c.args.all.now (InRelation (world c.args.setting.now) c.args.number c.args.position) c.in-None.ensures.none c.is_empty.ensures
