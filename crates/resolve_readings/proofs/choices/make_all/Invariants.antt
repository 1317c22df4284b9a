use Rattle.std.proofs.Common.{◌≡◌, take}
use Rattle.std.specs.List.{filter_map}
use Rattle.resolve_readings.specs.Found.{made}
use Rattle.resolve_readings.proofs.choices.make_all.Given as goal

abbrev pub invariant-loop-one : goal.invariant-loop-one
invariant-loop-one l = l.kept.items ≡ filter_map (made l.typing l.operator) (take l.one-index l.all)
