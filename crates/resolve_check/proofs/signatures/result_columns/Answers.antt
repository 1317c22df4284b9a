use Rattle.std.proofs.Common.{◌≡◌, Some, ap}
use Rattle.core_tree.specs.Trees.{term_of}
use Rattle.core_tree.specs.Columns.{columns_in}
use Rattle.resolve_check.specs.Names.{names_of}
use Rattle.resolve_check.specs.Fits.{shapes_in}
use Rattle.resolve_check.proofs.ParameterSteps.{some_of}
use Rattle.resolve_check.proofs.signatures.result_columns.Goals as goal

pub returns-in-Some : goal.returns-in-Some
returns-in-Some c = rw c.in-Term.is (ap Some (some_of (λ n. n ≡ columns_in (shapes_in c.args.plain.now) (term_of c.in-Term.bound.expr) (names_of c.args.names.now)) c.in_ok-plain_columns-in-Term.field-0 c.in-Some.count c.in-Some.is c.in_ok-plain_columns-in-Term.ensures))
