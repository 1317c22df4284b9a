use Rattle.std.proofs.Common.{◌≡◌, length}
use Rattle.gate_trait.specs.Built.{Keeps}
use Rattle.bmc_stack.specs.Stored.{AreStored}
use Rattle.bmc_stack.specs.Rows.{Grows}
use Rattle.bmc_leaves.specs.Relations.{AtStates}
use Rattle.bmc_leaves.proofs.leaves.add_states.Given as goal

abbrev pub invariant-loop-state : goal.invariant-loop-state
invariant-loop-state g l =
    let belongs = g.G.Gates.belongs in
    let value = g.G.Gates.node_value in
    record {
      keeps : Keeps belongs value l.initial.gates l.gates;
      stored : AreStored (belongs l.gates) l.store;
      grows : Grows l.initial.store l.store;
      long : length l.numbers.items ≡ l.state;
      sets : AtStates (value l.gates) l.store.matrices.items l.bound l.cells l.state l.numbers.items;
    }
