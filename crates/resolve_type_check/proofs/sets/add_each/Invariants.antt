use Rattle.std.proofs.Common.{◌≡◌, take}
use Rattle.resolve_type_check.specs.Same.{added}
use Rattle.resolve_type_check.proofs.sets.add_each.Given as goal

abbrev pub invariant-loop-row : goal.invariant-loop-row
invariant-loop-row l = l.all ≡ added l.initial.all (take l.row-index l.rows)
