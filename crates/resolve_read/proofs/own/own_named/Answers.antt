use Rattle.std.proofs.Common.{◌∙◌, ◌++◌, [], ap}
use Rattle.std.specs.List.{cons_option}
use Rattle.resolve_types.proofs.StepLemmas.{filter_map_more}
use Rattle.resolve_read.specs.Candidates.{named_field}
use Rattle.resolve_read.proofs.own.own_named.Goals as goal

pub loop-one-preserved : goal.loop-one-preserved
loop-one-preserved c =
    c.in_ok-push_some.ensures
    ∙ ap (λ o. c.loop-one.all ++ cons_option o []) c.named_field.ensures
    ∙ ap (λ all. all ++ cons_option (named_field c.args.text.now c.one-item.result) []) c.loop-one.invariant
    ∙ filter_map_more (named_field c.args.text.now) [] c.args.own.now c.loop-one.one-index c.one-item.result c.loop-one-test.true c.one-item.is
