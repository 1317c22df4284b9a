use Rattle.std.proofs.Common.{◌≡◌, length}
use Rattle.resolve_bodies.proofs.order.known_ranks.Given as goal

abbrev pub invariant-loop-rank : goal.invariant-loop-rank
invariant-loop-rank l = length l.all ≡ l.rank-index
