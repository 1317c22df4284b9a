use Rattle.std.proofs.Common.{take}
use Rattle.bound_uppers.proofs.Filling.{HoldsNone}
use Rattle.bound_uppers.proofs.rows.rows_hold.Given as goal

abbrev pub invariant-loop-row : goal.invariant-loop-row
invariant-loop-row l = HoldsNone l.sets (take l.row-index l.rows) l.tuple
