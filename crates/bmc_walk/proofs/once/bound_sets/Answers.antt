use Rattle.core_tree.specs.Trees.{term_of}
use Rattle.bmc_walk.proofs.ReadyLaws.{found_sets}
use Rattle.bmc_walk.proofs.once.bound_sets.Goals as goal

pub returns-in-Some-clause-right : goal.returns-in-Some-clause-right
returns-in-Some-clause-right g c =
    let value = g.G.Gates.node_value in
    let found = rw c.in-Some.is at c.in_ok-found.ensures in
    found_sets c.args.walk.now.ground.now c.args.known.now (value c.args.gates.now) c.args.store.now.matrices.items (term_of c.args.expr.now) c.in-Some.numbers.items found
