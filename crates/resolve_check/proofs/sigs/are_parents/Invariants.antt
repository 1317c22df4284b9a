use Rattle.std.proofs.Common.{All, take}
use Rattle.core_tree.specs.Models.{IsParent}
use Rattle.resolve_check.proofs.sigs.are_parents.Given as goal

abbrev pub invariant-loop-place : goal.invariant-loop-place
invariant-loop-place l = All (IsParent l.sigs) (take l.place l.columns)
