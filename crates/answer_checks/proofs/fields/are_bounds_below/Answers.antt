use Rattle.answer_checks.specs.Fields.{IsBoundBelow}
use Rattle.answer_checks.proofs.Lists.{all_more, all_whole}
use Rattle.answer_checks.proofs.fields.are_bounds_below.Goals as goal

pub loop-field-preserved : goal.loop-field-preserved
loop-field-preserved c = all_more (IsBoundBelow c.args.sigs c.args.limit) c.args.fields.now c.loop-field.field-index c.field-item.result c.loop-field-test.true c.field-item.is c.loop-field.invariant (c.is_bound_below-below.ensures c.if-not-below.false)

pub returns : goal.returns
returns c = λ t. all_whole (IsBoundBelow c.args.sigs c.args.limit) c.args.fields.now c.loop-field.field-index c.loop-field-test.false c.loop-field.invariant
