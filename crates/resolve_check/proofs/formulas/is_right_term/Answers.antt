use Rattle.core_tree.specs.Trees.{term_of}
use Rattle.resolve_check.specs.Names.{names_of}
use Rattle.resolve_check.proofs.Ends.{term_end}
use Rattle.resolve_check.proofs.formulas.is_right_term.Goals as goal

pub returns : goal.returns
returns c = term_end c.args.shape.now (names_of c.args.names.now) (term_of c.args.expr.now) c.in_ok-columns.columns c.is_there.result c.in_ok-columns.ensures c.is_there.ensures
