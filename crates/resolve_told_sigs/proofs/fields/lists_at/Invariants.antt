use Rattle.std.proofs.Common.{drop}
use Rattle.resolve_told_sigs.specs.declared.fields.ListSpot.{ListSpot}
use Rattle.resolve_told_sigs.specs.Walks.{Walks}
use Rattle.resolve_told_sigs.specs.Told.{IsListAt, given, list_spot}
use Rattle.resolve_told_sigs.proofs.fields.lists_at.Given as goal

abbrev pub invariant-loop-written : goal.invariant-loop-written
invariant-loop-written l = (t : ListSpot) → Walks (IsListAt (given l.sources) l.owner.instance l.owner.sig l.owner.label.now) l.here (drop l.written-index l.lists) t → Walks (IsListAt (given l.sources) l.owner.instance l.owner.sig l.owner.label.now) (list_spot 0 l.at) l.lists t
