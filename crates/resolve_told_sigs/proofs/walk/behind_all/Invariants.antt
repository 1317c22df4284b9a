use Rattle.std.proofs.Common.{drop}
use Rattle.resolve_told_sigs.specs.declared.walk.Spot.{Spot}
use Rattle.resolve_told_sigs.specs.Walks.{Walks}
use Rattle.resolve_told_sigs.specs.Told.{IsInstanceAt, given}
use Rattle.resolve_told_sigs.proofs.walk.behind_all.Given as goal

abbrev pub invariant-loop-instance : goal.invariant-loop-instance
invariant-loop-instance l = (t : Spot) → Walks (IsInstanceAt l.texts (given l.sources)) l.here (drop l.instance-index l.instances) t → Walks (IsInstanceAt l.texts (given l.sources)) l.fn.at l.instances t
