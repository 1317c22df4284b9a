use Rattle.std.proofs.Common.{map, take}
use Rattle.core_tree.specs.Trees.{variable_of, variable_list}
use Rattle.resolve_type_check.specs.Names.{names_of}
use Rattle.bound_laws.specs.Placed.{NamesAfter}
use Rattle.answer_checks.proofs.fields.names_after.Given as goal

abbrev pub invariant-loop-variable : goal.invariant-loop-variable
invariant-loop-variable l = NamesAfter l.model l.known (variable_list (map variable_of (take l.variable-index l.list))) (names_of l.names) (names_of l.inner)
