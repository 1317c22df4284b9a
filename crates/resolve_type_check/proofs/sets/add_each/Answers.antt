use Rattle.std.proofs.Common.{◌∙◌, ap}
use Rattle.resolve_type_check.specs.Same.{with_row}
use Rattle.resolve_type_check.proofs.Added.{added_more}
use Rattle.resolve_type_check.proofs.sets.add_each.Goals as goal

pub loop-row-preserved : goal.loop-row-preserved
loop-row-preserved c =
    c.in_ok-add_new.ensures
    ∙ ap (λ row. with_row c.loop-row.all row) c.as_slice.ensures
    ∙ ap (λ all. with_row all c.row-item.result) c.loop-row.invariant
    ∙ added_more c.args.all.now c.args.rows.now c.loop-row.row-index c.row-item.result c.loop-row-test.true c.row-item.is
