use Rattle.std.proofs.Common.{◌≡◌, length}
use Rattle.gate_trait.specs.Built.{Keeps}
use Rattle.bmc_stack.specs.Stored.{AreStored}
use Rattle.bmc_places.specs.Stores.{Extends}
use Rattle.bmc_places.specs.Sums.{AreAdded}
use Rattle.bmc_places.proofs.sums.sum_places.Given as goal

abbrev pub invariant-loop-place : goal.invariant-loop-place
invariant-loop-place g l =
    let belongs = g.G.Gates.belongs in
    let value = g.G.Gates.node_value in
    record {
      keeps : Keeps belongs value l.initial.gates l.gates;
      stored : AreStored (belongs l.gates) l.store;
      extends : Extends l.initial.store l.store;
      long : length l.numbers.items ≡ l.place;
      sums : AreAdded (value l.initial.gates) (value l.gates) l.initial.store.integers.items l.store.integers.items l.row l.totals l.made l.place l.numbers.items;
    }
