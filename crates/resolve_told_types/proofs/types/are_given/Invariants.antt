use Rattle.std.proofs.Common.{All, take}
use Rattle.resolve_told_types.specs.Kinds.{members_of}
use Rattle.resolve_told_types.specs.Steps.{IsGiven}
use Rattle.resolve_told_types.proofs.types.are_given.Given as goal

abbrev pub invariant-loop-row : goal.invariant-loop-row
invariant-loop-row l = All (IsGiven l.types (members_of l.parents)) (take l.row-index l.rows)
