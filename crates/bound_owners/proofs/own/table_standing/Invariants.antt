use Rattle.std.proofs.Common.{◌≡◌}
use Rattle.bound_owners.specs.Owned.{AreStanding}
use Rattle.bound_owners.proofs.own.table_standing.Given as goal

abbrev pub invariant-loop-sig : goal.invariant-loop-sig
invariant-loop-sig l = record { number : l.number ≡ l._sig-index; standing : AreStanding l.sigs l.numbers l._sig-index l.all.items }
