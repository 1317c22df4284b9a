use Rattle.std.proofs.Common.{◌≡◌, length}
use Rattle.bmc_places.proofs.LoopSetLaws.{NumbersTo}
use Rattle.bmc_places.proofs.rounds.numbers_next.Given as goal

abbrev pub invariant-loop-place : goal.invariant-loop-place
invariant-loop-place l = record {
  long : length l.numbers.items ≡ l.place;
  numbers : NumbersTo l.row l.next l.given l.numbers.items l.place;
}
