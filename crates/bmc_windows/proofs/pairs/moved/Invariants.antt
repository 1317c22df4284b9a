use Rattle.bmc_windows.proofs.PairLaws.{MovedTo}
use Rattle.bmc_windows.proofs.pairs.moved.Given as goal

abbrev pub invariant-loop-number : goal.invariant-loop-number
invariant-loop-number l = MovedTo l.row l.from l.new.items l.number
