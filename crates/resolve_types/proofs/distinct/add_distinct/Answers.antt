use Rattle.std.proofs.Common.{◌∙◌, ap}
use Rattle.resolve_types.specs.Rows.{with_row}
use Rattle.resolve_types.proofs.Addition.{added_more}
use Rattle.resolve_types.proofs.distinct.add_distinct.Goals as goal

pub loop-row-preserved : goal.loop-row-preserved
loop-row-preserved c =
    c.in_ok-add_new.ensures
    ∙ ap (λ row. with_row c.loop-row.all row) c.as_slice.ensures
    ∙ ap (λ all. with_row all c.row-item.result) c.loop-row.invariant
    ∙ added_more c.args.all.now c.args.more.now c.loop-row.row-index c.row-item.result c.loop-row-test.true c.row-item.is
