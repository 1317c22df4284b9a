use Rattle.std.proofs.Common.{All, take}
use Rattle.answer_checks.specs.Parts.{IsLabel}
use Rattle.answer_checks.proofs.labels.are_labels.Given as goal

abbrev pub invariant-loop-relation : goal.invariant-loop-relation
invariant-loop-relation l = All (IsLabel l.labels) (take l.relation-index l.relations)
