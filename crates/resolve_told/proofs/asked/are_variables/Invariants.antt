use Rattle.std.proofs.Common.{map}
use Rattle.core_tree.specs.Trees.{variable_of}
use Rattle.resolve_said.specs.Said.{standing_of}
use Rattle.resolve_told.specs.Commands.{IsVariable}
use Rattle.resolve_told.specs.Lists.{EachBefore}
use Rattle.resolve_told.specs.Views.{declared}
use Rattle.resolve_told.proofs.asked.are_variables.Given as goal

abbrev pub invariant-loop-place : goal.invariant-loop-place
invariant-loop-place l = EachBefore (IsVariable (standing_of l.site)) l.place (map declared l.all) (map variable_of l.variables)
