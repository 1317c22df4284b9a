use Rattle.std.proofs.Common.{◌≡◌, drop, length}
use Rattle.resolve_types.specs.Types.{met}
use Rattle.resolve_types.proofs.Meetings.{onto}
use Rattle.resolve_types.proofs.rows.met_rows.Given as goal

abbrev pub invariant-loop-i : goal.invariant-loop-i
invariant-loop-i l = (onto l.row (met l.lines (drop l.i l.a) (drop l.i l.b)) ≡ met l.lines l.a l.b) × (length l.a ≡ length l.b)
