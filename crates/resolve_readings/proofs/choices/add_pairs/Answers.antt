use Rattle.std.proofs.Common.{◌++◌, [], ◌∙◌, ap}
use Rattle.std.specs.List.{cons_option}
use Rattle.resolve_types.proofs.StepLemmas.{filter_map_more}
use Rattle.resolve_readings.specs.Found.{paired}
use Rattle.resolve_readings.proofs.choices.add_pairs.Goals as goal

pub loop-other-preserved : goal.loop-other-preserved
loop-other-preserved c =
    c.in_ok-push_some.ensures
    ∙ ap (λ o. c.loop-other.all.items ++ cons_option o []) c.in_ok-found.ensures
    ∙ ap (λ all. all ++ cons_option (paired c.args.typing.now c.args.operator c.args.left.now c.other-item.result) []) c.loop-other.invariant
    ∙ filter_map_more (paired c.args.typing.now c.args.operator c.args.left.now) c.args.all.now.items c.args.others.now c.loop-other.other-index c.other-item.result c.loop-other-test.true c.other-item.is
