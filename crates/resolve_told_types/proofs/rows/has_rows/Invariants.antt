use Rattle.std.proofs.Common.{All, Contains, take}
use Rattle.resolve_told_types.proofs.rows.has_rows.Given as goal

abbrev pub invariant-loop-other : goal.invariant-loop-other
invariant-loop-other l = All (Contains l.rows) (take l.other-index l.others)
