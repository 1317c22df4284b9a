use Rattle.resolve_check.specs.Fits.{order_of}
use Rattle.resolve_check.proofs.Whole.{field_end}
use Rattle.resolve_check.proofs.fields.is_right_field.Goals as goal

pub returns : goal.returns
returns c = field_end c.args.model.now (order_of c.args.shape.now) c.args.place c.args.field.now c.len-sigs.result c.as_slice-list.result.now c.has_few-few.result c.are_rows-rows.result c.has_owner-owner.result c.in_ok-bound.bound c.both.result c.both-2.result c.both-3.result c.len-sigs.ensures c.as_slice-list.ensures c.has_few-few.ensures c.are_rows-rows.ensures.wide c.are_rows-rows.ensures.parts c.has_owner-owner.ensures c.in_ok-bound.ensures c.both.ensures c.both-2.ensures c.both-3.ensures
