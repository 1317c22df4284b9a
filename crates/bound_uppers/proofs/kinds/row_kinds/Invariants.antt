use Rattle.std.proofs.Common.{◌≡◌, map, take}
use Rattle.bound_uppers.specs.Kinds.{kind_at}
use Rattle.bound_uppers.proofs.kinds.row_kinds.Given as goal

abbrev pub invariant-loop-place : goal.invariant-loop-place
invariant-loop-place l = l.kinds ≡ map (kind_at l.ups) (take l.place l.row)
