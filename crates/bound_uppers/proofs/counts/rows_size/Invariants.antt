use Rattle.std.proofs.Common.{◌≡◌, take}
use Rattle.bound_uppers.specs.Counts.{capped, rows_count, span_count}
use Rattle.bound_uppers.proofs.counts.rows_size.Given as goal

abbrev pub invariant-loop-row : goal.invariant-loop-row
invariant-loop-row l = l.size ≡ capped (rows_count (span_count l.spans) (take l.row-index l.rows))
