use Rattle.load_state.specs.Doors.{AreReplayed}
use Rattle.load_state.specs.Keys.{texts_of}
use Rattle.load_state.proofs.named.replayed_all.Given as goal

abbrev pub invariant-loop-place : goal.invariant-loop-place
invariant-loop-place l = AreReplayed l.instances (texts_of l.sources) l.done.items
