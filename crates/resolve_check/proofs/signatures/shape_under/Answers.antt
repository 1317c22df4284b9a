use Rattle.std.proofs.Common.{◌≡◌}
use Rattle.resolve_check.specs.Names.{names_of}
use Rattle.resolve_check.specs.Fits.{shapes_in}
use Rattle.resolve_check.specs.Parameters.{result_under}
use Rattle.resolve_check.proofs.ParameterSteps.{some_of, signature_is}
use Rattle.resolve_check.proofs.signatures.shape_under.Goals as goal

pub returns-in-Some : goal.returns-in-Some
returns-in-Some c = signature_is (shapes_in c.args.plain.now) c.args.body.now c.args.names.now c.in_ok-parameters.parameters c.in-Some.result c.requires c.in_ok-parameters.ensures (some_of (λ r. r ≡ result_under (shapes_in c.args.plain.now) c.args.body.now.form (names_of c.args.names.now)) c.in_ok-result_columns.field-0 c.in-Some.result c.in-Some.is c.in_ok-result_columns.ensures)
