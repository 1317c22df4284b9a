use Rattle.std.proofs.Common.{◌≡◌, length}
use Rattle.gate_tseitin.proofs.Asked.{StaySoFar}
use Rattle.gate_tseitin.proofs.fold.kept_of.Given as goal

-- for each gate so far there is a mark, of whether it stays
abbrev pub invariant-loop-number : goal.invariant-loop-number
invariant-loop-number l = record {
  each : length l.kept.items ≡ l.number;
  stay : StaySoFar l.store l.asked.items l.marks l.kept.items;
}
