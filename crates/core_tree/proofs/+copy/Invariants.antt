use Rattle.std.proofs.Common.{◌≡◌, map, take}
use Rattle.core_tree.specs.Trees.{term_of, claim_of, variable_of}
use Rattle.core_tree.proofs.+copy.Given as goal

abbrev pub invariant-copy::exprs-loop-expr : goal.invariant-copy::exprs-loop-expr
invariant-copy::exprs-loop-expr l = map term_of l.all.items ≡ map term_of (take l.expr-index l.list)

abbrev pub invariant-copy::formulas-loop-formula : goal.invariant-copy::formulas-loop-formula
invariant-copy::formulas-loop-formula l = map claim_of l.all.items ≡ map claim_of (take l.formula-index l.list)

abbrev pub invariant-copy::variables-loop-variable : goal.invariant-copy::variables-loop-variable
invariant-copy::variables-loop-variable l = map variable_of l.all.items ≡ map variable_of (take l.variable-index l.list)
