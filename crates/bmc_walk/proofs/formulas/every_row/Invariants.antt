use Rattle.std.proofs.Common.{◌-◌, length, map, drop}
use Rattle.gate_trait.specs.Built.{Keeps, AllIn}
use Rattle.core_tree.specs.Trees.{claim_of, claim_list, every}
use Rattle.bmc_stack.specs.Stored.{AreStored}
use Rattle.bmc_places.specs.Stores.{Stays}
use Rattle.bmc_walk.specs.Walked.{HasRow}
use Rattle.bmc_walk.proofs.formulas.every_row.Given as goal

abbrev pub invariant-loop-turn : goal.invariant-loop-turn
invariant-loop-turn g l =
    let belongs = g.G.Gates.belongs in
    let value = g.G.Gates.node_value in
    record {
      keeps : Keeps belongs value l.initial.gates l.gates;
      stored : AreStored (belongs l.gates) l.store;
      stays : Stays l.initial.store l.store;
      belong : AllIn (belongs l.gates) l.all;
      right : HasRow l.walk.ground.now l.known (value l.initial.gates) (value l.gates) l.initial.store.matrices.items (every (claim_list (map claim_of (drop (length l.list - l.turn) l.list)))) l.all;
    }
