use Rattle.std.proofs.Common.{rules, arith}
use Rattle.std.specs.HashMap.{get_by_text}
use Rattle.load_state.specs.Keys.{texts_of}
use Rattle.load_state.proofs.Replay.{replaying_first, replaying_all, parameters_counted}
use Rattle.load_state.proofs.named.replayed_opens.Goals as goal

pub loop-k-init : goal.loop-k-init
loop-k-init c =
    replaying_first c.args.instances.now (texts_of c.args.sources.now) c.args.finished.now c.args.number c.args.instance.now c.args.source.now.text c.new-doors.result.reach (get_by_text c.new-doors.result.aliases)
    c.new-doors.ensures.reach c.new-doors.ensures.aliases

pub loop-k-preserved : goal.loop-k-preserved
loop-k-preserved c = c.in_ok-next.ensures (search rules)

pub returns : goal.returns
returns c =
    replaying_all c.args.instances.now (texts_of c.args.sources.now) c.args.finished.now c.args.number c.in_ok-count.count c.loop-k.k c.args.instance.now c.args.source.now.text c.loop-k.doors c.requires.is
    c.in_ok-count.ensures (omega arith) c.loop-k.invariant

pub replays-requires-clause-paired : goal.replays-requires-clause-paired
replays-requires-clause-paired c = omega (arith, parameters_counted c.args.source.now.text.tree)

pub replays-requires-clause-inside : goal.replays-requires-clause-inside
replays-requires-clause-inside c = omega (arith, c.in_ok-count.ensures)
