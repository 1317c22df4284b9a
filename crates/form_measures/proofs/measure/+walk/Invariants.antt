use Rattle.std.proofs.Common.{map, take}
use Rattle.core_tree.specs.Trees.{claim_of, variable_of, claim_list, variable_list}
use Rattle.form_measures.specs.Measured.{measured_each}
use Rattle.form_measures.specs.Weights.{Weighs, IsUnder}
use Rattle.form_measures.proofs.Lists.{WeighEach}
use Rattle.form_measures.proofs.measure.+walk.Given as goal

abbrev pub invariant-of_each-loop-formula : goal.invariant-of_each-loop-formula
invariant-of_each-loop-formula l = Weighs l.bodies l.names l.whole (λ all d. measured_each l.measure all (claim_list (map claim_of (take l.formula-index l.list))) d)

abbrev pub invariant-of_arguments-loop-expr : goal.invariant-of_arguments-loop-expr
invariant-of_arguments-loop-expr l = WeighEach l.measure l.bodies l.names (take l.expr-index l.list) l.weights.items

abbrev pub invariant-under-loop-variable : goal.invariant-under-loop-variable
invariant-under-loop-variable l = IsUnder l.measure l.bodies l.names l.bounds l.inner.items (variable_list (map variable_of (take l.variable-index l.list)))
