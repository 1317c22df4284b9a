use Rattle.std.proofs.Common.{All, take}
use Rattle.resolve_told_sigs.specs.Own.{IsIn}
use Rattle.resolve_told_sigs.proofs.above.are_in.Given as goal

abbrev pub invariant-loop-parent : goal.invariant-loop-parent
invariant-loop-parent l = All (IsIn l.list) (take l.parent-index l.parents)
