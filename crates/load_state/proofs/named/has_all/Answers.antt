use Rattle.std.proofs.Common.{rules}
use Rattle.load_state.proofs.Replay.{has_next}
use Rattle.load_state.proofs.named.has_all.Goals as goal

pub loop-number-preserved : goal.loop-number-preserved
loop-number-preserved c = has_next c.args.finished.now c.loop-number.number c.loop-number.invariant (c.has_one.ensures (search rules))
