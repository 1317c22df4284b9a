use Rattle.core_tree.specs.Trees.{claim_of}
use Rattle.bmc_walk.proofs.EveryLaws.{front_law}
use Rattle.bmc_walk.proofs.formulas.and_row.Goals as goal

pub returns-clause-right : goal.returns-clause-right
returns-clause-right g c =
    let value = g.G.Gates.node_value in
    let belongs = g.G.Gates.belongs in
    let ground = c.args.walk.now.ground.now in
    let known = c.args.known.now in
    front_law belongs value ground known c.args.gates.now c.part_row.new.gates c.both.new.gates c.args.store.now.matrices.items (claim_of c.args.f.now) c.args.so_far.now c.in_ok-first.first c.in_ok-row.row c.part_row.ensures.keeps c.requires.so_far c.in_ok-first.ensures.right c.in_ok-row.ensures.both
