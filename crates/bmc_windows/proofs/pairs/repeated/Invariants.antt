use Rattle.std.proofs.Common.{◌≡◌, replicate}
use Rattle.bmc_windows.proofs.pairs.repeated.Given as goal

abbrev pub invariant-loop-turn : goal.invariant-loop-turn
invariant-loop-turn l = l.row.items ≡ replicate l._turn l.number
