use Rattle.std.proofs.Common.{◌≡◌, [], map, take}
use Rattle.core_tree.specs.Trees.{variable_of}
use Rattle.form_kernel.specs.Single.{alone}
use Rattle.form_kernel.proofs.variables.alone.Given as goal

abbrev pub invariant-loop-place : goal.invariant-loop-place
invariant-loop-place l = map variable_of l.all.items ≡ take l.place (alone [] (map variable_of l.list))
