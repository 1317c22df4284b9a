use Rattle.std.proofs.Common.{refl}
use Rattle.bound_uppers.proofs.Sketching.{right_field, field_is}
use Rattle.bound_uppers.proofs.uppers.field_sketch.Goals as goal

pub returns-clause-right : goal.returns-clause-right
returns-clause-right c = right_field _ c.columns_of-arity.ensures.least c.columns_of-arity.ensures.most c.in_ok-rows.ensures.columns refl

pub returns-clause-its : goal.returns-clause-its
returns-clause-its c = field_is c.args.ups.now c.args.field.now _ c.as_slice-listed.result.now c.columns_of-arity.ensures.same c.as_slice-listed.ensures refl c.in_ok-rows.ensures.rows
