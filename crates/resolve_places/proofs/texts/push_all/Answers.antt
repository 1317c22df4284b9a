use Rattle.resolve_places.proofs.Walk.{origin_next}
use Rattle.resolve_places.proofs.texts.push_all.Goals as goal

pub loop-origin-preserved : goal.loop-origin-preserved
loop-origin-preserved c = origin_next c.loop-origin._origin c.args.origin c.args.all.now c.loop-origin.all c.push.new.self c.loop-origin.invariant c.in_ok-push.ensures.ok
