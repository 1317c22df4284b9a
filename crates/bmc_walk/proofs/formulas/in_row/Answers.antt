use Rattle.core_tree.specs.Trees.{term_of, inside}
use Rattle.bmc_walk.proofs.WalkLaws.{two_sets}
use Rattle.bmc_places.proofs.StoreLaws.{extends_trans, stays_extends}
use Rattle.bmc_walk.proofs.formulas.in_row.Goals as goal

pub returns-clause-right : goal.returns-clause-right
returns-clause-right g c =
    let value = g.G.Gates.node_value in
    let belongs = g.G.Gates.belongs in
    let ground = c.args.walk.now.ground.now in
    let known = c.args.known.now in
    let e = term_of c.args.a.now in
    let f = term_of c.args.b.now in
    two_sets belongs value ground known c.args.gates.now c.part_sets.new.gates c.part_sets-2.new.gates c.inside_row.new.gates c.args.store.now c.part_sets.new.store c.part_sets-2.new.store e f (inside e f) c.in_ok-first.first.items c.in_ok-second.second.items c.in_ok-row.row
    c.part_sets.ensures.keeps c.part_sets-2.ensures.keeps c.requires.stored c.in_ok-first.ensures.stored c.in_ok-first.ensures.extends c.in_ok-second.ensures.extends
    (λ n le. le) c.in_ok-first.ensures.right c.in_ok-second.ensures.right (λ r left right. c.in_ok-row.ensures.right r e f left right)

pub returns-clause-extends : goal.returns-clause-extends
returns-clause-extends g c =
    let a = c.args.store.now in
    let b = c.part_sets.new.store in
    let d = c.part_sets-2.new.store in
    let e = c.inside_row.new.store in
    extends_trans a b e c.in_ok-first.ensures.extends (extends_trans b d e c.in_ok-second.ensures.extends (stays_extends d e c.in_ok-row.ensures.stays))
