use Rattle.std.proofs.Common.{◌≡◌, map, take}
use Rattle.core_tree.specs.Trees.{claim_of, variable_of, claim_list, variable_list}
use Rattle.bmc_encoder.specs.Depths.{nested_of_bounds, nested_of_each}
use Rattle.bmc_encoder.proofs.past_depth.+depth.Given as goal

abbrev pub invariant-of_bounds-loop-variable : goal.invariant-of_bounds-loop-variable
invariant-of_bounds-loop-variable l = l.depth ≡ nested_of_bounds (variable_list (map variable_of (take l.variable-index l.list)))

abbrev pub invariant-of_formulas-loop-formula : goal.invariant-of_formulas-loop-formula
invariant-of_formulas-loop-formula l = l.depth ≡ nested_of_each (claim_list (map claim_of (take l.formula-index l.list)))
