use Rattle.std.proofs.Common.{drop}
use Rattle.resolve_told_sigs.specs.declared.sigs.SigSpot.{SigSpot}
use Rattle.resolve_told_sigs.specs.Walks.{Walks}
use Rattle.resolve_told_sigs.specs.Told.{IsSigAt, given}
use Rattle.resolve_told_sigs.proofs.sigs.sigs_at.Given as goal

abbrev pub invariant-loop-name : goal.invariant-loop-name
invariant-loop-name l = (t : SigSpot) → Walks (IsSigAt (given l.sources) l.label l.instance l.written) l.here (drop l.name-index l.written.names) t → Walks (IsSigAt (given l.sources) l.label l.instance l.written) l.fn.at l.written.names t
