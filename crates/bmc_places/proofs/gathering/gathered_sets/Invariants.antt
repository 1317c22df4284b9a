use Rattle.std.proofs.Common.{◌≡◌, length}
use Rattle.gate_trait.specs.Built.{Keeps}
use Rattle.bmc_stack.specs.Stored.{AreStored}
use Rattle.bmc_places.specs.Stores.{Extends}
use Rattle.bmc_places.proofs.GatherLaws.{GatheredTo}
use Rattle.bmc_places.proofs.gathering.gathered_sets.Given as goal

abbrev pub invariant-loop-place : goal.invariant-loop-place
invariant-loop-place g l =
    let belongs = g.G.Gates.belongs in
    let value = g.G.Gates.node_value in
    record {
      keeps : Keeps belongs value l.initial.gates l.gates;
      stored : AreStored (belongs l.gates) l.store;
      extends : Extends l.initial.store l.store;
      long : length l.numbers.items ≡ l.place;
      gathered : GatheredTo (value l.initial.gates) (value l.gates) l.store.matrices.items l.choices l.place l.numbers.items;
    }
