use Rattle.std.proofs.Common.{◌≡◌, take}
use Rattle.resolve_told_types.specs.Steps.{pairs_with}
use Rattle.resolve_told_types.proofs.outermost.are_pairs_with.Given as goal

abbrev pub invariant-loop-place : goal.invariant-loop-place
invariant-loop-place l = take l.place l.rows ≡ pairs_with (take l.place l.others) l.row
