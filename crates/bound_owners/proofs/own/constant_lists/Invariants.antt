use Rattle.std.proofs.Common.{◌≡◌}
use Rattle.bound_owners.specs.Owned.{HasLists}
use Rattle.bound_owners.proofs.own.constant_lists.Given as goal

abbrev pub invariant-loop-sig : goal.invariant-loop-sig
invariant-loop-sig l = record { number : l.number ≡ l._sig-index; lists : HasLists l.sigs l._sig-index l.lists.items }
