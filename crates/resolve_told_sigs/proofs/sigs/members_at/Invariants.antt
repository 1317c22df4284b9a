use Rattle.std.proofs.Common.{ℕ, drop}
use Rattle.resolve_told_sigs.specs.Walks.{Walks}
use Rattle.resolve_told_sigs.specs.Told.{IsMemberAt, given}
use Rattle.resolve_told_sigs.proofs.sigs.members_at.Given as goal

abbrev pub invariant-loop-name : goal.invariant-loop-name
invariant-loop-name l = (t : ℕ) → Walks (IsMemberAt (given l.sources) l.label l.instance l.first) l.here (drop l.name-index l.members) t → Walks (IsMemberAt (given l.sources) l.label l.instance l.first) l.at l.members t
