use Rattle.std.proofs.Common.{map, take}
use Rattle.core_tree.specs.Trees.{claim_of, variable_of, claim_list, variable_list}
use Rattle.bmc_encoder.specs.Letless.{AreLetlessBounds, AreLetless}
use Rattle.bmc_encoder.proofs.letless.+letless.Given as goal

abbrev pub invariant-are_letless_bounds-loop-variable : goal.invariant-are_letless_bounds-loop-variable
invariant-are_letless_bounds-loop-variable l = AreLetlessBounds (variable_list (map variable_of (take l.variable-index l.list)))

abbrev pub invariant-are_letless-loop-formula : goal.invariant-are_letless-loop-formula
invariant-are_letless-loop-formula l = AreLetless (claim_list (map claim_of (take l.formula-index l.list)))
