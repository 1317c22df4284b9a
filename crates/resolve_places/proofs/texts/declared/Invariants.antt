use Rattle.std.proofs.Common.{◌≡◌, ◌++◌, drop}
use Rattle.resolve_places.specs.Places.{declared_from}
use Rattle.resolve_places.proofs.texts.declared.Given as goal

-- what was added, and what the instances that are left declare
abbrev pub invariant-loop-instance : goal.invariant-loop-instance
invariant-loop-instance l = l.all ++ declared_from l.kind l.texts l.number (drop l.instance-index l.instance-items) ≡ declared_from l.kind l.texts 0 l.loaded.instances
