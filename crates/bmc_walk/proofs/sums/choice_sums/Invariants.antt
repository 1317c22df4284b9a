use Rattle.std.proofs.Common.{map}
use Rattle.gate_trait.specs.Built.{Keeps}
use Rattle.core_tree.specs.Trees.{term_of, variable_of, variable_list}
use Rattle.bmc_stack.specs.Stored.{AreStored}
use Rattle.bmc_places.specs.Stores.{Extends}
use Rattle.bmc_places.specs.Sums.{AreSums, AllStand}
use Rattle.bmc_walk.specs.Walked.{atoms_of}
use Rattle.bmc_walk.proofs.SumLaws.{BodiesTo}
use Rattle.bmc_walk.proofs.sums.choice_sums.Given as goal

abbrev pub invariant-loop-place : goal.invariant-loop-place
invariant-loop-place g l =
    let belongs = g.G.Gates.belongs in
    let value = g.G.Gates.node_value in
    record {
      keeps : Keeps belongs value l.initial.gates l.gates;
      stored : AreStored (belongs l.gates) l.store;
      extends : Extends l.fn.store l.store;
      bodies : BodiesTo l.walk.ground.now (variable_list (map variable_of l.list)) (atoms_of l.known) (value l.initial.gates) (value l.gates) l.fn.store.matrices.items l.store.integers.items (term_of l.body) l.choices l.place l.rows.items;
      stand : AllStand l.store.integers.items l.rows.items l.count;
      sums : AreSums (value l.gates) (value l.gates) l.store.integers.items l.store.integers.items l.walk.ground.now.setting.universe.bits l.choices l.rows.items l.count l.totals.items;
    }
