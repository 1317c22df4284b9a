use Rattle.std.proofs.Common.{◌≡◌, map, take}
use Rattle.core_tree.specs.Trees.{term_of, claim_of, variable_of, term_list, claim_list, variable_list}
use Rattle.eval_calls.specs.Weight.{calls_below, weight_of_terms, weight_of_bounds, weight_of_each}
use Rattle.eval_calls.proofs.weight.+weigh.Given as goal

abbrev pub invariant-of_terms-loop-expr : goal.invariant-of_terms-loop-expr
invariant-of_terms-loop-expr l = l.weight ≡ weight_of_terms (calls_below l.bodies l.weights l.rank) (term_list (map term_of (take l.expr-index l.list)))

abbrev pub invariant-of_bounds-loop-variable : goal.invariant-of_bounds-loop-variable
invariant-of_bounds-loop-variable l = l.weight ≡ weight_of_bounds (calls_below l.bodies l.weights l.rank) (variable_list (map variable_of (take l.variable-index l.list)))

abbrev pub invariant-of_formulas-loop-formula : goal.invariant-of_formulas-loop-formula
invariant-of_formulas-loop-formula l = l.weight ≡ weight_of_each (calls_below l.bodies l.weights l.rank) (claim_list (map claim_of (take l.formula-index l.list)))
