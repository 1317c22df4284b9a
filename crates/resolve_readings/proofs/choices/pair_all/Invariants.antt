use Rattle.std.proofs.Common.{◌≡◌, take}
use Rattle.resolve_types.specs.Types.{pairs}
use Rattle.resolve_readings.specs.Found.{paired}
use Rattle.resolve_readings.proofs.choices.pair_all.Given as goal

abbrev pub invariant-loop-one : goal.invariant-loop-one
invariant-loop-one l = l.all.items ≡ pairs (paired l.typing l.operator) (take l.one-index l.left) l.right
