use Rattle.std.proofs.Common.{take}
use Rattle.resolve_names.specs.Marks.{AreOpened}
use Rattle.resolve_names.proofs.follow.mark_opens.Given as goal

abbrev pub invariant-loop-open : goal.invariant-loop-open
invariant-loop-open l = AreOpened l.is_own l.alias (take l.open-index l.opens) l.initial.marks.items l.marks.items
