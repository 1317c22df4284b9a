use Rattle.std.proofs.Common.{arith}
use Rattle.core_tree.specs.Trees.{variable_of}
use Rattle.resolve_said.specs.Said.{standing_of}
use Rattle.resolve_told.specs.Commands.{IsVariable}
use Rattle.resolve_told.specs.Views.{declared}
use Rattle.resolve_told.proofs.Walk.{both_more}
use Rattle.resolve_told.proofs.asked.are_variables.Goals as goal

pub loop-place-preserved : goal.loop-place-preserved
loop-place-preserved c =
    both_more (IsVariable (standing_of c.args.site.now)) declared variable_of c.args.all.now c.args.variables.now c.loop-place.place c.index-all-place.result c.index-variables-place.result
    (omega arith) (omega arith) c.index-all-place.is c.index-variables-place.is c.loop-place.invariant (c.in_ok-is_right.ensures c.if-not-is_right.false)
