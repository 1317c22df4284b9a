use Rattle.resolve_names.proofs.Entering.{same_next}
use Rattle.resolve_names.proofs.entries.push_bodies.Goals as goal

pub loop-body-preserved : goal.loop-body-preserved
loop-body-preserved c = same_next c.loop-body._body c.args.entry c.args.all.now c.loop-body.all c.push.new.self c.loop-body.invariant c.in_ok-push.ensures.ok
