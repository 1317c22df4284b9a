use Rattle.std.proofs.Common.{◌≡◌, take}
use Rattle.resolve_told_sigs.proofs.typed.same_row.Given as goal

abbrev pub invariant-loop-place : goal.invariant-loop-place
invariant-loop-place l = take l.place l.a ≡ take l.place l.b
