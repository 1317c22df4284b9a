use Rattle.std.proofs.Common.{take}
use Rattle.resolve_names.specs.Marks.{AreBehind}
use Rattle.resolve_names.proofs.follow.follow.Given as goal

abbrev pub invariant-loop-alias : goal.invariant-loop-alias
invariant-loop-alias l = AreBehind l.scopes l.from (take l.alias-index l.path) l.marks.items
