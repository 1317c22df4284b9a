use Rattle.std.proofs.Common.{map}
use Rattle.gate_trait.specs.Built.{Keeps}
use Rattle.core_tree.specs.Trees.{claim_of, variable_of, variable_list}
use Rattle.bmc_stack.specs.Stored.{AreStored}
use Rattle.bmc_walk.specs.Variables.{earlier_list}
use Rattle.bmc_places.specs.Gathered.{AllRows}
use Rattle.bmc_places.specs.Stores.{Stays}
use Rattle.bmc_walk.proofs.ChoiceLaws.{FoundTo}
use Rattle.bmc_walk.proofs.choices.+choices.Given as goal

abbrev pub invariant-add_atoms-loop-place : goal.invariant-add_atoms-loop-place
invariant-add_atoms-loop-place g l =
    let belongs = g.G.Gates.belongs in
    let value = g.G.Gates.node_value in
    record {
      keeps : Keeps belongs value l.initial.gates l.gates;
      stored : AreStored (belongs l.gates) l.store;
      stays : Stays l.initial.store l.store;
      rows : AllRows (belongs l.gates) l.all.items;
      found : FoundTo l.walk.ground.now l.known (earlier_list l.earlier) (value l.initial.gates) (value l.gates) l.initial.store.matrices.items (variable_of l.variable) (variable_list (map variable_of l.rest)) (claim_of l.formula) l.found.tuples.items l.found.nodes l.there l.place l.initial.all.items l.all.items;
    }

abbrev pub decreases-add_choices : goal.decreases-add_choices
decreases-add_choices g l = l.deep

abbrev pub decreases-add_bound : goal.decreases-add_bound
decreases-add_bound g l = l.deep

abbrev pub decreases-add_atoms : goal.decreases-add_atoms
decreases-add_atoms g l = l.deep

abbrev pub decreases-add_atom : goal.decreases-add_atom
decreases-add_atom g l = l.deep
