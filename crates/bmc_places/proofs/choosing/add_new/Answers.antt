use Rattle.bmc_places.proofs.ChosenLaws.{there_law}
use Rattle.bmc_places.proofs.choosing.add_new.Goals as goal

pub returns-clause-chooses : goal.returns-clause-chooses
returns-clause-chooses g c =
    let value = g.G.Gates.node_value in
    there_law (value c.args.gates.now) (value c.add_picked.new.gates) c.args.store.now.matrices.items c.add_picked.new.store.matrices.items c.args.row.now c.args.a.now c.args.b.now c.args.place c.node_at-node.result c.found_at-first.result c.found_at-second.result c.in_ok-number.number
    c.in_ok-number.ensures.chooses c.node_at-node.ensures.node c.found_at-first.ensures c.found_at-second.ensures
