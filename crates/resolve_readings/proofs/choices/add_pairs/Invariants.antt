use Rattle.std.proofs.Common.{◌≡◌, ◌++◌, take}
use Rattle.std.specs.List.{filter_map}
use Rattle.resolve_readings.specs.Found.{paired}
use Rattle.resolve_readings.proofs.choices.add_pairs.Given as goal

abbrev pub invariant-loop-other : goal.invariant-loop-other
invariant-loop-other l = l.all.items ≡ l.initial.all.items ++ filter_map (paired l.typing l.operator l.left) (take l.other-index l.others)
