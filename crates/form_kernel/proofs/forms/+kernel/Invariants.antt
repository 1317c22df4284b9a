use Rattle.std.proofs.Common.{◌≡◌, map, take}
use Rattle.core_tree.specs.Trees.{claim_of, variable_of}
use Rattle.form_kernel.specs.Written.{kernel_claim, kernel_binder}
use Rattle.form_kernel.proofs.forms.+kernel.Given as goal

abbrev pub invariant-formulas-loop-formula : goal.invariant-formulas-loop-formula
invariant-formulas-loop-formula l = map claim_of l.all.items ≡ map kernel_claim (map claim_of (take l.formula-index l.list))

abbrev pub invariant-variables-loop-variable : goal.invariant-variables-loop-variable
invariant-variables-loop-variable l = map variable_of l.all.items ≡ map kernel_binder (map variable_of (take l.variable-index l.list))
