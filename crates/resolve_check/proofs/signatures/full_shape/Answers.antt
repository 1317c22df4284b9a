use Rattle.std.proofs.Common.{◌≡◌, map}
use Rattle.resolve_check.specs.Fits.{shapes_in, signature_in}
use Rattle.resolve_check.specs.Parameters.{signature_under}
use Rattle.resolve_check.proofs.ParameterSteps.{some_of, shape_is}
use Rattle.resolve_check.proofs.signatures.full_shape.Goals as goal

pub returns-in_ok-field_numbers-in-Some : goal.returns-in_ok-field_numbers-in-Some
returns-in_ok-field_numbers-in-Some c = shape_is c.args.model.now c.args.plain.now c.requires c.len.result c.in_ok-columns_of_fields-in-Some.field-0 c.as_slice-in-Some.result.now c.in-Some.bodies c.as_slice.result.now c.len.ensures c.in_ok-columns_of_fields-in-Some.ensures c.as_slice-in-Some.ensures (some_of (λ all. map signature_in all ≡ map (signature_under (shapes_in c.args.plain.now)) c.as_slice.result.now) c.in_ok-body_shapes.field-0 c.in-Some.bodies c.in-Some.is c.in_ok-body_shapes.ensures) c.as_slice.ensures
