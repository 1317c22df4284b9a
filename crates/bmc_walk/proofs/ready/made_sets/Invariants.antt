use Rattle.std.proofs.Common.{All}
use Rattle.gate_trait.specs.Built.{Keeps}
use Rattle.bmc_stack.specs.Stored.{AreStored}
use Rattle.bmc_places.specs.Stores.{Extends}
use Rattle.bmc_walk.specs.Ready.{IsMade}
use Rattle.bmc_walk.proofs.ready.made_sets.Given as goal

abbrev pub invariant-loop-place : goal.invariant-loop-place
invariant-loop-place g l =
    let belongs = g.G.Gates.belongs in
    let value = g.G.Gates.node_value in
    record {
      keeps : Keeps belongs value l.initial.gates l.gates;
      stored : AreStored (belongs l.gates) l.store;
      extends : Extends l.fn.store l.store;
      made : All (IsMade l.walk.ground.now l.known (value l.initial.gates) (value l.gates) l.fn.store.matrices.items l.store.matrices.items) l.all.items;
    }
