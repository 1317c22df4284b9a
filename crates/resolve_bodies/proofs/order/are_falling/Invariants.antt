use Rattle.std.proofs.Common.{All, take}
use Rattle.resolve_bodies.specs.Falls.{DoesFall}
use Rattle.resolve_bodies.proofs.order.are_falling.Given as goal

abbrev pub invariant-loop-edge : goal.invariant-loop-edge
invariant-loop-edge l = All (DoesFall l.ranks) (take l.edge-index l.edges)
