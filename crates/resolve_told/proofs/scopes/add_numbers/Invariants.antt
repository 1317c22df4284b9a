use Rattle.std.proofs.Common.{◌≡◌, ◌++◌, map, take}
use Rattle.resolve_told.specs.Commands.{for}
use Rattle.resolve_told.specs.CommandViews.{seen_count}
use Rattle.resolve_told.proofs.scopes.add_numbers.Given as goal

abbrev pub invariant-loop-number : goal.invariant-loop-number
invariant-loop-number l = map seen_count l.all.items ≡ map seen_count l.initial.all.items ++ map for (take l.number-index l.numbers)
