use Rattle.std.proofs.Common.{◌≡◌, ◌++◌, drop}
use Rattle.resolve_readings.specs.Found.{numbered}
use Rattle.resolve_readings.proofs.choices.candidates.Given as goal

abbrev pub invariant-loop-number : goal.invariant-loop-number
invariant-loop-number l = l.numbers.items ++ numbered l.number (drop l.number l.all) ≡ numbered 0 l.all
