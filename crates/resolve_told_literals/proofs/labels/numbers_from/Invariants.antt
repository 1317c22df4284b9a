use Rattle.indexmap.specs.IndexMap.{get_by_text}
use Rattle.resolve_told_literals.specs.Marks.{Finds}
use Rattle.resolve_told_literals.proofs.labels.numbers_from.Given as goal

abbrev pub invariant-loop-number : goal.invariant-loop-number
invariant-loop-number l = Finds l.sigs l.first l.number (get_by_text l.numbers)
