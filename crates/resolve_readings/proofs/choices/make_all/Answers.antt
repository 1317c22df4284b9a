use Rattle.std.proofs.Common.{◌++◌, [], ◌∙◌, ap}
use Rattle.std.specs.List.{cons_option}
use Rattle.resolve_types.proofs.StepLemmas.{filter_map_more}
use Rattle.resolve_readings.specs.Found.{made}
use Rattle.resolve_readings.proofs.choices.make_all.Goals as goal

pub loop-one-preserved : goal.loop-one-preserved
loop-one-preserved c =
    c.in_ok-push_some.ensures
    ∙ ap (λ o. c.loop-one.kept.items ++ cons_option o []) c.in_ok-found.ensures
    ∙ ap (λ all. all ++ cons_option ((made c.args.typing.now c.args.operator) c.one-item.result) []) c.loop-one.invariant
    ∙ filter_map_more (made c.args.typing.now c.args.operator) [] c.args.all.now c.loop-one.one-index c.one-item.result c.loop-one-test.true c.one-item.is
