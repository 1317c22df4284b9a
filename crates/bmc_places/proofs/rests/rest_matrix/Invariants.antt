use Rattle.bmc_places.proofs.RestLaws.{RestTo}
use Rattle.bmc_places.proofs.rests.rest_matrix.Given as goal

abbrev pub invariant-loop-entry : goal.invariant-loop-entry
invariant-loop-entry g l = RestTo (g.G.Gates.belongs l.gates) (g.G.Gates.node_value l.gates) l.all l.numbers l.at_start l.left l.entry-index l.entries.items
