use Rattle.core_tree.specs.Trees.{term_of}
use Rattle.bmc_stack.proofs.StoreLaws.{store_kept}
use Rattle.bmc_places.proofs.StoreLaws.{extends_trans, stays_extends, stays_trans}
use Rattle.bmc_walk.proofs.ArrowLaws.{within_all}
use Rattle.bmc_walk.proofs.arrows.within_row.Goals as goal

pub returns-clause-right : goal.returns-clause-right
returns-clause-right g c =
    let value = g.G.Gates.node_value in
    let belongs = g.G.Gates.belongs in
    let ground = c.args.walk.now.ground.now in
    let known = c.args.known.now in
    let e = term_of c.args.a.now in
    let f = term_of c.args.b.now in
    let q = c.word_row.new.store in
    let stored_q = store_kept belongs value c.word_row.new.gates c.both.new.gates c.both.ensures.keeps q c.in_ok-count_row.ensures.stored in
    within_all belongs value ground known c.args.gates.now c.part_sets.new.gates c.part_sets-2.new.gates c.inside_row.new.gates c.word_row.new.gates c.both.new.gates c.fits_row.new.gates c.both-2.new.gates c.args.store.now c.part_sets.new.store c.part_sets-2.new.store c.inside_row.new.store q e f c.args.word c.in_ok-first.first.items c.in_ok-second.second.items c.in_ok-lies.lies c.in_ok-count_row.count_row c.in_ok-so_far.so_far c.in_ok-fits.fits c.in_ok-row.row
    c.part_sets.ensures.keeps c.part_sets-2.ensures.keeps c.inside_row.ensures.keeps c.word_row.ensures.keeps c.both.ensures.keeps c.fits_row.ensures.keeps c.requires.stored c.in_ok-first.ensures.stored c.in_ok-second.ensures.stored c.in_ok-lies.ensures.stored stored_q
    c.in_ok-first.ensures.extends c.in_ok-second.ensures.extends c.in_ok-lies.ensures.stays c.in_ok-count_row.ensures.stays c.in_ok-lies.ensures.belongs c.in_ok-so_far.ensures.belongs
    c.in_ok-first.ensures.right c.in_ok-second.ensures.right (λ r left right. c.in_ok-lies.ensures.right r e f left right)
    c.in_ok-count_row.ensures.word c.in_ok-so_far.ensures.both c.in_ok-fits.ensures.right c.in_ok-row.ensures.both

pub returns-clause-extends : goal.returns-clause-extends
returns-clause-extends g c =
    let a = c.args.store.now in
    let b = c.part_sets.new.store in
    let d = c.part_sets-2.new.store in
    let e = c.inside_row.new.store in
    let f = c.word_row.new.store in
    let h = c.fits_row.new.store in
    extends_trans a b h c.in_ok-first.ensures.extends (extends_trans b d h c.in_ok-second.ensures.extends (stays_extends d h (stays_trans d e h c.in_ok-lies.ensures.stays (stays_trans e f h c.in_ok-count_row.ensures.stays c.in_ok-fits.ensures.stays))))
