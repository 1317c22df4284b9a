use Rattle.std.proofs.Common.{map}
use Rattle.resolve_told.specs.Bodies.{IsBody}
use Rattle.resolve_told.specs.Lists.{EachBefore}
use Rattle.resolve_told.specs.Views.{declaration}
use Rattle.resolve_told.proofs.bodies.are_bodies.Given as goal

abbrev pub invariant-loop-place : goal.invariant-loop-place
invariant-loop-place l = EachBefore (IsBody l.told.names.now.scopes l.told.model.now l.told.readings.now l.told.integers) l.place (map declaration l.all) l.bodies
