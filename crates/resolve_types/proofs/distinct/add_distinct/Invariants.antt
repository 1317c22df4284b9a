use Rattle.std.proofs.Common.{◌≡◌, take}
use Rattle.resolve_types.specs.Rows.{added}
use Rattle.resolve_types.proofs.distinct.add_distinct.Given as goal

abbrev pub invariant-loop-row : goal.invariant-loop-row
invariant-loop-row l = l.all ≡ added l.initial.all (take l.row-index l.more)
