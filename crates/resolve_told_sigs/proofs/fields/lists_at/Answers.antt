use Rattle.resolve_told_sigs.specs.Told.{IsListAt, given, list_spot}
use Rattle.resolve_told_sigs.proofs.Turns.{walks_end}
use Rattle.resolve_told_sigs.proofs.fields.lists_at.Goals as goal

pub returns : goal.returns
returns c =
    (c.loop-written.here.list, walks_end (IsListAt (given c.args.sources.now) c.args.owner.now.instance c.args.owner.now.sig c.args.owner.now.label.now) (list_spot 0 c.args.at) c.loop-written.here c.args.lists.now c.loop-written.written-index c.loop-written-test.false c.loop-written.invariant)
