use Rattle.std.proofs.Common.{◌≡◌, ◌++◌, map, drop}
use Rattle.resolve_told.specs.Bodies.{bodies_from}
use Rattle.resolve_told.specs.Views.{declaration}
use Rattle.resolve_told.proofs.texts.all_bodies.Given as goal

abbrev pub invariant-loop-instance : goal.invariant-loop-instance
invariant-loop-instance l = map declaration l.all.items ++ bodies_from l.texts l.number (drop l.instance-index l.instance-items) ≡ bodies_from l.texts 0 l.loaded.instances
