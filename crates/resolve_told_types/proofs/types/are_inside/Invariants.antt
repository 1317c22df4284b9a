use Rattle.std.proofs.Common.{All, take}
use Rattle.core_tree.specs.declared.model.Column.{Column}
use Rattle.resolve_told_types.specs.Kinds.{member_of}
use Rattle.resolve_told_types.specs.Steps.{IsInside}
use Rattle.resolve_told_types.proofs.types.are_inside.Given as goal

abbrev pub invariant-loop-parent : goal.invariant-loop-parent
invariant-loop-parent l = All (λ (p : Column). IsInside l.types l.ranks l.rank l.rows (member_of p)) (take l.parent-index l.parents)
