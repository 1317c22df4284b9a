use Rattle.std.proofs.Common.{◌≡◌, refl}
use Rattle.core_tree.specs.Trees.{term_of}
use Rattle.core_tree.specs.Columns.{columns_in}
use Rattle.resolve_check.specs.Names.{names_of}
use Rattle.resolve_check.specs.Fits.{shapes_in}
use Rattle.resolve_check.proofs.ParameterSteps.{some_of, named_is}
use Rattle.resolve_check.proofs.signatures.next_parameter.Goals as goal

pub returns-in-Some : goal.returns-in-Some
returns-in-Some c = named_is (shapes_in c.args.plain.now) c.args.names.now c.args.place c.args.parameter.now c.in-Some.columns _ refl (some_of (λ n. n ≡ columns_in (shapes_in c.args.plain.now) (term_of c.args.parameter.now.bound.expr) (names_of c.args.names.now)) c.in_ok-plain_columns.field-0 c.in-Some.columns c.in-Some.is c.in_ok-plain_columns.ensures)
