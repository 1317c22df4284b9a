use Rattle.std.proofs.Common.{All, take}
use Rattle.core_tree.specs.Models.{IsRightBody}
use Rattle.resolve_check.proofs.bodies.are_right_bodies.Given as goal

abbrev pub invariant-loop-body : goal.invariant-loop-body
invariant-loop-body l = All (IsRightBody l.model) (take l.body-index l.bodies)
