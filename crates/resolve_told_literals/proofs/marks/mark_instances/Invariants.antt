use Rattle.std.proofs.Common.{take}
use Rattle.indexmap.specs.IndexMap.{get_by_text}
use Rattle.resolve_told_literals.specs.Told.{IsWritten}
use Rattle.resolve_told_literals.specs.Marks.{AreMarked}
use Rattle.resolve_told_literals.proofs.marks.mark_instances.Given as goal

abbrev pub invariant-loop-instance : goal.invariant-loop-instance
invariant-loop-instance l = AreMarked (get_by_text l.numbers) (IsWritten l.loaded.texts (take l.instance-index l.instance-items)) l.initial.marks.items l.marks.items
