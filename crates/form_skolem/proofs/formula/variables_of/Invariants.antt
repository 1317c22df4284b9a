use Rattle.std.proofs.Common.{◌≡◌, ◌+◌, ◌++◌, map, drop}
use Rattle.core_tree.specs.Trees.{variable_of}
use Rattle.form_skolem.specs.Steps.{binders}
use Rattle.form_skolem.proofs.formula.variables_of.Given as goal

abbrev pub invariant-loop-place : goal.invariant-loop-place
invariant-loop-place l = map variable_of l.all.items ++ binders (l.first + l.place) (drop l.place l.parameters) ≡ binders l.first l.parameters
