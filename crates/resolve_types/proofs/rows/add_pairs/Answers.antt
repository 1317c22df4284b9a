use Rattle.std.proofs.Common.{◌≡◌, ◌++◌, [], ◌∙◌, ap}
use Rattle.std.specs.List.{cons_option}
use Rattle.resolve_types.specs.Types.{row_of}
use Rattle.resolve_types.proofs.StepLemmas.{filter_map_more}
use Rattle.resolve_types.proofs.rows.add_pairs.Goals as goal

pub loop-other-preserved : goal.loop-other-preserved
loop-other-preserved c =
    let row : c.in_ok-row_by.field-0 ≡ row_of c.args.lines.now c.args.way c.args.row.now c.other-item.result = c.in_ok-row_by.ensures ∙ ap (row_of c.args.lines.now c.args.way c.args.row.now) c.as_slice.ensures in
    c.in_ok-push_some.ensures
    ∙ ap (λ o. c.loop-other.all ++ cons_option o []) row
    ∙ ap (λ all. all ++ cons_option (row_of c.args.lines.now c.args.way c.args.row.now c.other-item.result) []) c.loop-other.invariant
    ∙ filter_map_more (row_of c.args.lines.now c.args.way c.args.row.now) c.args.all.now c.args.others.now c.loop-other.other-index c.other-item.result c.loop-other-test.true c.other-item.is
