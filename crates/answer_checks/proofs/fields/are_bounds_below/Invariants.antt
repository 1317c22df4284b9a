use Rattle.std.proofs.Common.{All, take}
use Rattle.answer_checks.specs.Fields.{IsBoundBelow}
use Rattle.answer_checks.proofs.fields.are_bounds_below.Given as goal

abbrev pub invariant-loop-field : goal.invariant-loop-field
invariant-loop-field l = All (IsBoundBelow l.sigs l.limit) (take l.field-index l.fields)
