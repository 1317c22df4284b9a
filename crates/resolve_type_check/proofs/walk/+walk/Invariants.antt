use Rattle.std.proofs.Common.{map, take}
use Rattle.core_tree.specs.Trees.{variable_of, variable_list}
use Rattle.resolve_type_check.specs.Names.{names_of}
use Rattle.resolve_type_check.proofs.Typing.{IsSoFar}
use Rattle.resolve_type_check.proofs.walk.+walk.Given as goal

abbrev pub invariant-type_of_variables-loop-variable : goal.invariant-type_of_variables-loop-variable
invariant-type_of_variables-loop-variable l = IsSoFar l.model (variable_list (map variable_of (take l.variable-index l.list))) (names_of l.names) (names_of l.inner) l.all
