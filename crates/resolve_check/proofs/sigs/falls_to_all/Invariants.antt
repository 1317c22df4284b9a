use Rattle.std.proofs.Common.{All, take}
use Rattle.resolve_check.specs.Kept.{FallsTo}
use Rattle.resolve_check.proofs.sigs.falls_to_all.Given as goal

abbrev pub invariant-loop-place : goal.invariant-loop-place
invariant-loop-place l = All (FallsTo l.numbers l.sig) (take l.place l.parents)
