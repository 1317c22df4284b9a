use Rattle.std.proofs.Common.{map, take}
use Rattle.core_tree.specs.Trees.{term_of, claim_of, variable_of, term_list, claim_list, variable_list}
use Rattle.bound_laws.specs.Placed.{AreTermsBelow, AreVariablesBelow, AreClaimsBelow}
use Rattle.answer_checks.proofs.below.+below.Given as goal

abbrev pub invariant-are_terms_below-loop-expr : goal.invariant-are_terms_below-loop-expr
invariant-are_terms_below-loop-expr l = AreTermsBelow l.sigs l.fields (term_list (map term_of (take l.expr-index l.list)))

abbrev pub invariant-are_variables_below-loop-variable : goal.invariant-are_variables_below-loop-variable
invariant-are_variables_below-loop-variable l = AreVariablesBelow l.sigs l.fields (variable_list (map variable_of (take l.variable-index l.list)))

abbrev pub invariant-are_claims_below-loop-formula : goal.invariant-are_claims_below-loop-formula
invariant-are_claims_below-loop-formula l = AreClaimsBelow l.sigs l.fields (claim_list (map claim_of (take l.formula-index l.list)))
