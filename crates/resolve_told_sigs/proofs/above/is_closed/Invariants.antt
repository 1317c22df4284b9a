use Rattle.std.proofs.Common.{All, take}
use Rattle.resolve_told_sigs.specs.Own.{HasParentsIn}
use Rattle.resolve_told_sigs.proofs.above.is_closed.Given as goal

abbrev pub invariant-loop-number : goal.invariant-loop-number
invariant-loop-number l = All (HasParentsIn l.sigs l.list) (take l.number-index l.list)
