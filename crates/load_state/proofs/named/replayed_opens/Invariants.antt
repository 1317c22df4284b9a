use Rattle.std.specs.HashMap.{get_by_text}
use Rattle.load_state.specs.Doors.{IsReplaying}
use Rattle.load_state.specs.Keys.{texts_of}
use Rattle.load_state.proofs.named.replayed_opens.Given as goal

abbrev pub invariant-loop-k : goal.invariant-loop-k
invariant-loop-k l = IsReplaying l.instances (texts_of l.sources) l.finished l.number l.instance l.source.text l.k l.doors.reach (get_by_text l.doors.aliases)
