use Rattle.std.proofs.Common.{take}
use Rattle.resolve_told_sigs.specs.Own.{AreAdded}
use Rattle.resolve_told_sigs.proofs.above.add_all.Given as goal

abbrev pub invariant-loop-parent : goal.invariant-loop-parent
invariant-loop-parent l = AreAdded (take l.parent-index l.parents) l.initial.list.items l.list.items
