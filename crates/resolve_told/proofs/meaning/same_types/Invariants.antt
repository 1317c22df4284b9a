use Rattle.std.proofs.Common.{◌≡◌, take}
use Rattle.resolve_told.proofs.meaning.same_types.Given as goal

abbrev pub invariant-loop-place : goal.invariant-loop-place
invariant-loop-place l = take l.place l.a ≡ take l.place l.b
