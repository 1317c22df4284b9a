use Rattle.std.proofs.Common.{◌≡◌, take}
use Rattle.resolve_type_check.proofs.sets.are_alike.Given as goal

abbrev pub invariant-loop-place : goal.invariant-loop-place
invariant-loop-place l = take l.place l.rows ≡ take l.place l.others
