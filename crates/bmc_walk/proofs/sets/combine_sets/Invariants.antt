use Rattle.std.proofs.Common.{◌-◌, length}
use Rattle.gate_trait.specs.Built.{Keeps}
use Rattle.core_tree.specs.Trees.{term_of}
use Rattle.bmc_stack.specs.Stored.{AreStored}
use Rattle.bmc_places.specs.Stores.{Extends}
use Rattle.bmc_walk.proofs.LevelLaws.{HasRest}
use Rattle.bmc_walk.proofs.sets.combine_sets.Given as goal

abbrev pub invariant-loop-turn : goal.invariant-loop-turn
invariant-loop-turn g l =
    let belongs = g.G.Gates.belongs in
    let value = g.G.Gates.node_value in
    record {
      keeps : Keeps belongs value l.fn.gates l.gates;
      stored : AreStored (belongs l.gates) l.store;
      extends : Extends l.fn.store l.store;
      right : HasRest l.walk.ground.now l.known (value l.fn.gates) (value l.gates) l.fn.store.matrices.items l.store.matrices.items (term_of l.expr) l.operands (length l.operands - l.turn) l.made.items;
    }
