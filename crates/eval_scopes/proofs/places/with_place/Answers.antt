use Rattle.core_meaning.specs.World.{InRelation}
use Rattle.eval_context.specs.Settings.{world}
use Rattle.eval_scopes.proofs.PlaceLaw.{united, as_before}
use Rattle.eval_scopes.proofs.places.with_place.Goals as goal

pub returns-in_ok-more-in-Some : goal.returns-in_ok-more-in-Some
returns-in_ok-more-in-Some c =
    united c.in_ok-more-in-Some.more c.args.all c.in-Some.set.now (InRelation (world c.args.setting.now) c.args.number c.args.position) c.in-Some.ensures.some c.in_ok-more-in-Some.ensures

pub returns-in-None : goal.returns-in-None
returns-in-None c = as_before c.args.all (InRelation (world c.args.setting.now) c.args.number c.args.position) c.in-None.ensures.none
