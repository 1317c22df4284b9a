use Rattle.std.proofs.Common.{◌≡◌, ◌-◌, length}
use Rattle.resolve_types.specs.Rows.{without_repeats, rounds}
use Rattle.resolve_types.proofs.distinct.closed_rows.Given as goal

abbrev pub invariant-loop-round : goal.invariant-loop-round
invariant-loop-round l = rounds l.lines (length l.rows - l._round) l.all ≡ rounds l.lines (length l.rows) (without_repeats l.rows)
