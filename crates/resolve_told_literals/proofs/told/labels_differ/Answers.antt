use Rattle.indexmap.specs.IndexMap.{get_by_text}
use Rattle.resolve_told_literals.proofs.Telling.{differing}
use Rattle.resolve_told_literals.proofs.told.labels_differ.Goals as goal

pub returns-in-Some : goal.returns-in-Some
returns-in-Some c = λ yes. differing c.args.sigs.now (get_by_text c.in-Some._numbers) (rw c.in-Some.is at c.in_ok-numbers_from.ensures)
