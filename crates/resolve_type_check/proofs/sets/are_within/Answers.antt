use Rattle.std.proofs.Common.{◌∙◌, sym, ap}
use Rattle.resolve_type_check.specs.Same.{has_row}
use Rattle.resolve_type_check.proofs.Added.{within_more}
use Rattle.resolve_type_check.proofs.sets.are_within.Goals as goal

pub loop-row-preserved : goal.loop-row-preserved
loop-row-preserved c = within_more c.args.rows.now c.args.others.now c.loop-row.row-index c.row-item.result c.loop-row-test.true c.row-item.is c.loop-row.invariant (sym (c.is_among.ensures ∙ ap (has_row c.args.others.now) c.as_slice.ensures) ∙ c.if-not-is_among.false)
