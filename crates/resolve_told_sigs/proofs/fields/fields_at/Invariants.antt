use Rattle.std.proofs.Common.{ℕ, drop}
use Rattle.resolve_told_sigs.specs.Walks.{Walks}
use Rattle.resolve_told_sigs.specs.Told.{IsFieldAt, given}
use Rattle.resolve_told_sigs.proofs.fields.fields_at.Given as goal

abbrev pub invariant-loop-name : goal.invariant-loop-name
invariant-loop-name l = (t : ℕ) → Walks (IsFieldAt (given l.sources) l.owner.instance l.owner.sig l.owner.label.now l.list l.written) l.here (drop l.name-index l.written.names) t → Walks (IsFieldAt (given l.sources) l.owner.instance l.owner.sig l.owner.label.now l.list l.written) l.at l.written.names t
