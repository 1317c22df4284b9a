use Rattle.std.proofs.Common.{◌≡◌, take}
use Rattle.bound_uppers.specs.Counts.{capped, row_count, span_count}
use Rattle.bound_uppers.proofs.counts.row_size.Given as goal

abbrev pub invariant-loop-place : goal.invariant-loop-place
invariant-loop-place l = l.size ≡ capped (row_count (span_count l.spans) (take l.place l.kinds))
