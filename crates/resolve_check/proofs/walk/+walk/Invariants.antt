use Rattle.std.proofs.Common.{◌≡◌, map, take}
use Rattle.core_tree.specs.Trees.{term_of, claim_of, variable_of, term_list, claim_list, variable_list}
use Rattle.resolve_check.specs.Names.{names_of}
use Rattle.resolve_check.specs.Fits.{names_after, are_right_variables, are_right_arguments, are_right}
use Rattle.resolve_check.proofs.walk.+walk.Given as goal

abbrev pub invariant-are_right_variables-loop-variable : goal.invariant-are_right_variables-loop-variable
invariant-are_right_variables-loop-variable l = record {
  names : names_of l.inner ≡ names_after (variable_list (map variable_of (take l.variable-index l.list))) (names_of l.names);
  right : l.right ≡ are_right_variables l.shape l.limits (variable_list (map variable_of (take l.variable-index l.list))) (names_of l.names);
}

abbrev pub invariant-are_right_arguments-loop-place : goal.invariant-are_right_arguments-loop-place
invariant-are_right_arguments-loop-place l = l.right ≡ are_right_arguments l.shape l.limits (term_list (map term_of (take l.place l.list))) (names_of l.names) (take l.place l.parameters)

abbrev pub invariant-are_right-loop-formula : goal.invariant-are_right-loop-formula
invariant-are_right-loop-formula l = l.right ≡ are_right l.shape l.limits (claim_list (map claim_of (take l.formula-index l.list))) (names_of l.names)
