use Rattle.std.proofs.Common.{take}
use Rattle.std.specs.Prelude.{sum_by}
use Rattle.bound_uppers.specs.Counts.{field_count}
use Rattle.bound_uppers.proofs.Counting.{sum_step, sum_end}
use Rattle.bound_uppers.proofs.counts.fields_size.Goals as goal

pub loop-field-preserved : goal.loop-field-preserved
loop-field-preserved c =
    let f = field_count c.args.sigs.now c.args.scopes.now in
    let place = c.loop-field.field-index in
    sum_step f c.args.fields.now place c.field-item.result c.sum_of-size.result c.loop-field-test.true c.field-item.is (c.sum_of-size.ensures (sum_by f (take place c.args.fields.now)) (f c.field-item.result) c.loop-field.invariant c.in_ok-more.ensures)

pub returns : goal.returns
returns c = sum_end (field_count c.args.sigs.now c.args.scopes.now) c.args.fields.now c.loop-field.field-index c.loop-field.size c.loop-field-test.false c.loop-field.invariant
