use Rattle.std.proofs.Common.{◌-◌, length}
use Rattle.gate_trait.specs.Built.{Keeps, AllIn}
use Rattle.core_tree.specs.Trees.{term_of}
use Rattle.bmc_stack.specs.Stored.{AreStored}
use Rattle.bmc_places.specs.Stores.{Stays}
use Rattle.bmc_walk.proofs.ArrowLaws.{TuplesTo}
use Rattle.bmc_walk.proofs.arrows.+fits.Given as goal

abbrev pub invariant-tuples_row-loop-turn : goal.invariant-tuples_row-loop-turn
invariant-tuples_row-loop-turn g l =
    let belongs = g.G.Gates.belongs in
    let value = g.G.Gates.node_value in
    record {
      keeps : Keeps belongs value l.initial.gates l.gates;
      stored : AreStored (belongs l.gates) l.store;
      stays : Stays l.initial.store l.store;
      belong : AllIn (belongs l.gates) l.all;
      right : TuplesTo l.walk.ground.now l.known (value l.initial.gates) (value l.gates) l.initial.store.matrices.items l.at_start l.word (term_of l.other) l.set.items l.found.tuples.items l.found.nodes (length l.found.tuples.items - l.turn) l.all;
    }

abbrev pub decreases-fits_row : goal.decreases-fits_row
decreases-fits_row g l = l.deep

abbrev pub decreases-end_row : goal.decreases-end_row
decreases-end_row g l = l.deep

abbrev pub decreases-tuples_row : goal.decreases-tuples_row
decreases-tuples_row g l = l.deep

abbrev pub decreases-tuple_row : goal.decreases-tuple_row
decreases-tuple_row g l = l.deep
