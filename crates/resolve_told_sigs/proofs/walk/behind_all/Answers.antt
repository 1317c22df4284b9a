use Rattle.resolve_told_sigs.specs.Told.{IsInstanceAt, given}
use Rattle.resolve_told_sigs.proofs.Turns.{walks_next, walks_end}
use Rattle.resolve_told_sigs.proofs.walk.behind_all.Goals as goal

pub loop-instance-preserved : goal.loop-instance-preserved
loop-instance-preserved c =
    walks_next (IsInstanceAt c.args.texts.now (given c.args.sources.now))
    c.args.at c.loop-instance.here c.in-Some.there c.args.instances.now c.loop-instance.instance-index c.instance-item.result c.loop-instance-test.true c.instance-item.is (rw c.in-Some.is at c.in_ok-behind_instance.ensures) c.loop-instance.invariant

pub returns : goal.returns
returns c = walks_end (IsInstanceAt c.args.texts.now (given c.args.sources.now)) c.args.at c.loop-instance.here c.args.instances.now c.loop-instance.instance-index c.loop-instance-test.false c.loop-instance.invariant
