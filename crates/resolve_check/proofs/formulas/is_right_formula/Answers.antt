use Rattle.core_tree.specs.Trees.{claim_of}
use Rattle.resolve_check.specs.Names.{names_of}
use Rattle.resolve_check.proofs.Ends.{formula_end}
use Rattle.resolve_check.proofs.formulas.is_right_formula.Goals as goal

pub returns : goal.returns
returns c = formula_end c.args.shape.now (names_of c.args.names.now) (claim_of c.args.formula.now) c.is_right.result c.is_right.ensures
