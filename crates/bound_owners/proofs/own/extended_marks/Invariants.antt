use Rattle.std.proofs.Common.{take}
use Rattle.bound_owners.specs.Owned.{AreExtended}
use Rattle.bound_owners.proofs.own.extended_marks.Given as goal

abbrev pub invariant-loop-sig : goal.invariant-loop-sig
invariant-loop-sig l = AreExtended l.sigs (take l.sig-index l.sigs) l.marks.items
