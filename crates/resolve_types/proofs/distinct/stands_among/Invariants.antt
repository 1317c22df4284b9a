use Rattle.std.proofs.Common.{◌≡◌, false, take}
use Rattle.std.specs.List.{list_any}
use Rattle.resolve_types.specs.Rows.{same_row}
use Rattle.resolve_types.proofs.distinct.stands_among.Given as goal

abbrev pub invariant-loop-other : goal.invariant-loop-other
invariant-loop-other l = list_any (λ r. same_row r l.row) (take l.other-index l.rows) ≡ false
