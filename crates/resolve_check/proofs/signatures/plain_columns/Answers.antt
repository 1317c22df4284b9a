use Rattle.std.proofs.Common.{◌≡◌, IfSome}
use Rattle.core_tree.specs.Trees.{term_of}
use Rattle.core_tree.specs.Columns.{columns_in}
use Rattle.resolve_check.specs.Names.{names_of}
use Rattle.resolve_check.specs.Fits.{shapes_in, columns_at}
use Rattle.resolve_check.proofs.Results.{if_ok}
use Rattle.resolve_check.proofs.ParameterSteps.{plain_limits, plain_end}
use Rattle.resolve_check.proofs.signatures.plain_columns.Goals as goal

pub returns : goal.returns
returns c = if_ok (λ o. o ≡ columns_at c.args.plain.now plain_limits (term_of c.args.expr.now) (names_of c.args.names.now)) (λ o. IfSome o (λ n. n ≡ columns_in (shapes_in c.args.plain.now) (term_of c.args.expr.now) (names_of c.args.names.now))) (λ o e. plain_end c.args.plain.now plain_limits (term_of c.args.expr.now) (names_of c.args.names.now) o e) c.columns_at.result c.columns_at.ensures
