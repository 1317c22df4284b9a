use Rattle.std.proofs.Common.{take}
use Rattle.resolve_told_types.specs.Steps.{AreTopsBefore}
use Rattle.resolve_told_types.proofs.outermost.count_of_tops.Given as goal

abbrev pub invariant-loop-place : goal.invariant-loop-place
invariant-loop-place l = AreTopsBefore l.sigs l.place (take l.count l.rows)
