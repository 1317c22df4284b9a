use Rattle.resolve_places.proofs.Walk.{instance_next}
use Rattle.resolve_places.proofs.texts.declared.Goals as goal

pub loop-instance-preserved : goal.loop-instance-preserved
loop-instance-preserved c =
    instance_next c.args.kind _ c.loop-instance.number c.in_ok-number.number _ c.loop-instance.instance-index c.instance-item.result c.loop-instance.all c.push_instance.new.all _
    c.loop-instance-test.true c.instance-item.is c.loop-instance.invariant c.in_ok-push_instance.ensures c.in_ok-number.ensures
