use Rattle.std.proofs.Common.{◌≡◌, false, take}
use Rattle.std.specs.List.{list_any}
use Rattle.resolve_type_check.specs.Same.{same_row}
use Rattle.resolve_type_check.proofs.sets.is_among.Given as goal

abbrev pub invariant-loop-other : goal.invariant-loop-other
invariant-loop-other l = list_any (same_row l.row) (take l.other-index l.rows) ≡ false
