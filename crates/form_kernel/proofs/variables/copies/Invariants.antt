use Rattle.std.proofs.Common.{◌≡◌, map, take}
use Rattle.core_tree.specs.Trees.{variable_of}
use Rattle.form_kernel.proofs.variables.copies.Given as goal

abbrev pub invariant-loop-variable : goal.invariant-loop-variable
invariant-loop-variable l = map variable_of l.all.items ≡ map variable_of (take l.variable-index l.list)
