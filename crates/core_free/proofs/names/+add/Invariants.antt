use Rattle.std.proofs.Common.{◌≡◌, ◌++◌, map, take}
use Rattle.core_tree.specs.Trees.{term_of, claim_of, variable_of, term_list, claim_list, variable_list}
use Rattle.core_free.specs.Used.{used_in_each, used_under, used_of_each}
use Rattle.core_free.proofs.names.+add.Given as goal

abbrev pub invariant-add_formulas-loop-formula : goal.invariant-add_formulas-loop-formula
invariant-add_formulas-loop-formula l = l.all.items ≡ l.initial.all.items ++ used_of_each (claim_list (map claim_of (take l.formula-index l.list)))

abbrev pub invariant-add_exprs-loop-expr : goal.invariant-add_exprs-loop-expr
invariant-add_exprs-loop-expr l = l.all.items ≡ l.initial.all.items ++ used_in_each (term_list (map term_of (take l.expr-index l.list)))

abbrev pub invariant-add_bounds-loop-variable : goal.invariant-add_bounds-loop-variable
invariant-add_bounds-loop-variable l = l.all.items ≡ l.initial.all.items ++ used_under (variable_list (map variable_of (take l.variable-index l.list)))
