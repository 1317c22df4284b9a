use Rattle.core_tree.specs.Trees.{term_of, test}
use Rattle.bmc_walk.proofs.WalkLaws.{one_set}
use Rattle.bmc_places.proofs.StoreLaws.{extends_trans, stays_extends}
use Rattle.bmc_walk.proofs.formulas.test_row.Goals as goal

pub returns-clause-right : goal.returns-clause-right
returns-clause-right g c =
    let value = g.G.Gates.node_value in
    let belongs = g.G.Gates.belongs in
    let ground = c.args.walk.now.ground.now in
    let known = c.args.known.now in
    let e = term_of c.args.a.now in
    one_set belongs value ground known c.args.gates.now c.part_sets.new.gates c.tested_row.new.gates c.args.store.now.matrices.items c.part_sets.new.store.matrices.items e (test c.args.quantity e) c.in_ok-first.first.items c.in_ok-row.row
    (λ n le. le) c.in_ok-first.ensures.right (λ r left. c.in_ok-row.ensures.right r e left)

pub returns-clause-extends : goal.returns-clause-extends
returns-clause-extends g c =
    let a = c.args.store.now in
    let b = c.part_sets.new.store in
    let d = c.tested_row.new.store in
    extends_trans a b d c.in_ok-first.ensures.extends (stays_extends b d c.in_ok-row.ensures.stays)
