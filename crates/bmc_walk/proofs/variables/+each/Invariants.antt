use Rattle.std.proofs.Common.{map}
use Rattle.gate_trait.specs.Built.{Keeps, AllIn}
use Rattle.core_tree.specs.Trees.{claim_of, variable_of, variable_list}
use Rattle.bmc_stack.specs.Stored.{AreStored}
use Rattle.bmc_walk.specs.Variables.{earlier_list}
use Rattle.bmc_places.specs.Stores.{Stays}
use Rattle.bmc_walk.proofs.EachLaws.{AtomsTo}
use Rattle.bmc_walk.proofs.variables.+each.Given as goal

abbrev pub invariant-atoms_row-loop-place : goal.invariant-atoms_row-loop-place
invariant-atoms_row-loop-place g l =
    let belongs = g.G.Gates.belongs in
    let value = g.G.Gates.node_value in
    record {
      keeps : Keeps belongs value l.initial.gates l.gates;
      stored : AreStored (belongs l.gates) l.store;
      stays : Stays l.initial.store l.store;
      belong : AllIn (belongs l.gates) l.all;
      right : AtomsTo l.walk.ground.now l.known (earlier_list l.earlier) (value l.initial.gates) (value l.gates) l.initial.store.matrices.items (variable_of l.variable) (variable_list (map variable_of l.rest)) (claim_of l.formula) l.found.tuples.items l.found.nodes l.place l.all;
    }

abbrev pub decreases-each_row : goal.decreases-each_row
decreases-each_row g l = l.deep

abbrev pub decreases-bound_row : goal.decreases-bound_row
decreases-bound_row g l = l.deep

abbrev pub decreases-atoms_row : goal.decreases-atoms_row
decreases-atoms_row g l = l.deep

abbrev pub decreases-atom_row : goal.decreases-atom_row
decreases-atom_row g l = l.deep
