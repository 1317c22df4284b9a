use Rattle.std.proofs.Common.{◌≡◌, ◌≤◌, ◌++◌, length, take}
use Rattle.std.specs.Prelude.{map}
use Rattle.bound_naming.specs.Reckoned.{pair_in}
use Rattle.bound_naming.proofs.listing.add_pairs.Given as goal

abbrev pub invariant-loop-place : goal.invariant-loop-place
invariant-loop-place l = record {
  few : length l.pairs ≤ l.most;
  all : l.pairs ≡ l.initial.pairs ++ map (pair_in l.table l.state) (take l.place l.matches);
}
