use Rattle.std.proofs.Common.{◌≡◌, length}
use Rattle.resolve_bodies.proofs.order.no_ranks.Given as goal

abbrev pub invariant-loop : goal.invariant-loop
invariant-loop l = length l.ranks.items ≡ l.counter
