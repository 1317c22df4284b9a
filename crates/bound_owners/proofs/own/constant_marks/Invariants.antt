use Rattle.std.proofs.Common.{◌≡◌}
use Rattle.bound_owners.specs.Owned.{AreConstants}
use Rattle.bound_owners.proofs.own.constant_marks.Given as goal

abbrev pub invariant-loop-sig : goal.invariant-loop-sig
invariant-loop-sig l = record { number : l.number ≡ l.sig-index; marks : AreConstants l.sigs l.sig-index l.marks.items }
