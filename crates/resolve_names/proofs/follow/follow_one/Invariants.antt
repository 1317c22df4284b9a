use Rattle.resolve_names.specs.Marks.{AreFollowed}
use Rattle.resolve_names.proofs.follow.follow_one.Given as goal

abbrev pub invariant-loop-number : goal.invariant-loop-number
invariant-loop-number l = AreFollowed l.scopes l.from l.alias l.before l.number l.marks.items
