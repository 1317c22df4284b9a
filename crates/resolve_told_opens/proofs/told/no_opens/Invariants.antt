use Rattle.std.proofs.Common.{◌≡◌, None, replicate}
use Rattle.resolve_told_opens.proofs.told.no_opens.Given as goal

abbrev pub invariant-loop : goal.invariant-loop
invariant-loop l = l.all.items ≡ replicate l.counter None
