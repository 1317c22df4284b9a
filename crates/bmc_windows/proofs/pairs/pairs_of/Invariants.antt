use Rattle.bmc_windows.proofs.PairLaws.{PairsTo}
use Rattle.bmc_windows.proofs.pairs.pairs_of.Given as goal

abbrev pub invariant-loop-place : goal.invariant-loop-place
invariant-loop-place l = PairsTo l.pairs.items l.row.items l.a l.b l.place
