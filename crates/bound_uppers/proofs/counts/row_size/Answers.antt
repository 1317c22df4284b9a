use Rattle.std.proofs.Common.{◌<◌, ◌≤◌, length, take, arith}
use Rattle.bound_uppers.specs.Counts.{row_count, span_count}
use Rattle.bound_uppers.proofs.Counting.{row_step, row_end}
use Rattle.bound_uppers.proofs.counts.row_size.Goals as goal

pub loop-place-preserved : goal.loop-place-preserved
loop-place-preserved c =
    let kinds = c.numbers-kinds.result.now in
    let place = c.loop-place.place in
    let lt : place < length kinds = omega arith in
    row_step (span_count c.args.spans.now) kinds place c.number_at-kind.result c.count_of-count.result c.product_of-size.result lt c.number_at-kind.ensures c.count_of-count.ensures (c.product_of-size.ensures (row_count (span_count c.args.spans.now) (take place kinds)) c.loop-place.invariant)

pub returns : goal.returns
returns c =
    let over : length c.numbers-kinds.result.now ≤ c.loop-place.place = omega arith in
    row_end (span_count c.args.spans.now) c.numbers-kinds.result.now c.args.row.now c.loop-place.place c.loop-place.size over c.numbers-kinds.ensures c.loop-place.invariant
