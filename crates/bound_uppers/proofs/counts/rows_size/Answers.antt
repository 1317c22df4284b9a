use Rattle.std.proofs.Common.{take}
use Rattle.bound_uppers.specs.Counts.{row_count, rows_count, span_count}
use Rattle.bound_uppers.proofs.Counting.{sum_step, sum_end}
use Rattle.bound_uppers.proofs.counts.rows_size.Goals as goal

pub loop-row-preserved : goal.loop-row-preserved
loop-row-preserved c =
    let f = row_count (span_count c.args.spans.now) in
    let place = c.loop-row.row-index in
    sum_step f c.args.rows.now place c.row-item.result c.sum_of-size.result c.loop-row-test.true c.row-item.is (c.sum_of-size.ensures (rows_count (span_count c.args.spans.now) (take place c.args.rows.now)) (f c.row-item.result) c.loop-row.invariant c.row_size-more.ensures)

pub returns : goal.returns
returns c = sum_end (row_count (span_count c.args.spans.now)) c.args.rows.now c.loop-row.row-index c.loop-row.size c.loop-row-test.false c.loop-row.invariant
