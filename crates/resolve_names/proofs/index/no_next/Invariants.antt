use Rattle.std.proofs.Common.{◌≡◌, length}
use Rattle.resolve_names.proofs.index.no_next.Given as goal

abbrev pub invariant-loop : goal.invariant-loop
invariant-loop l = length l.next.items ≡ l.counter
