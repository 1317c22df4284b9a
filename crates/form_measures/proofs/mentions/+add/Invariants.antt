use Rattle.std.proofs.Common.{◌≡◌, ◌++◌, map, take}
use Rattle.core_tree.specs.Trees.{term_of, claim_of, variable_of, term_list, claim_list, variable_list}
use Rattle.bound_definitions.specs.Mentions.{mentions_in_each, mentions_under, mentions_of_each}
use Rattle.form_measures.proofs.mentions.+add.Given as goal

abbrev pub invariant-add_formulas-loop-formula : goal.invariant-add_formulas-loop-formula
invariant-add_formulas-loop-formula l = l.all.items ≡ l.initial.all.items ++ mentions_of_each l.instance (claim_list (map claim_of (take l.formula-index l.list)))

abbrev pub invariant-add_exprs-loop-expr : goal.invariant-add_exprs-loop-expr
invariant-add_exprs-loop-expr l = l.all.items ≡ l.initial.all.items ++ mentions_in_each l.instance (term_list (map term_of (take l.expr-index l.list)))

abbrev pub invariant-add_bounds-loop-variable : goal.invariant-add_bounds-loop-variable
invariant-add_bounds-loop-variable l = l.all.items ≡ l.initial.all.items ++ mentions_under l.instance (variable_list (map variable_of (take l.variable-index l.list)))
