use Rattle.std.proofs.Common.{◌≡◌, ◌≤◌, length, take}
use Rattle.bound_naming.specs.Reckoned.{pairs_to}
use Rattle.bound_naming.proofs.listing.pairs_to.Given as goal

abbrev pub invariant-loop-state : goal.invariant-loop-state
invariant-loop-state l = record {
  few : length l.pairs ≤ l.most;
  all : l.pairs ≡ take l.most (pairs_to l.table l.all l.state);
}
