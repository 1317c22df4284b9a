use Rattle.std.proofs.Common.{ℕ, List, subst}
use Rattle.bmc_places.specs.Chosen.{AreChosen}
use Rattle.core_tree.specs.Trees.{term_of, claim_of}
use Rattle.bmc_walk.proofs.WalkLaws.{choose_law}
use Rattle.bmc_places.proofs.StoreLaws.{extends_trans, stays_extends}
use Rattle.bmc_walk.proofs.sets.choose_sets.Goals as goal

pub returns-clause-right : goal.returns-clause-right
returns-clause-right g c =
    let value = g.G.Gates.node_value in
    let belongs = g.G.Gates.belongs in
    let ground = c.args.walk.now.ground.now in
    let known = c.args.known.now in
    let old = value c.part_row.new.gates in
    let new = value c.chosen_sets.new.gates in
    let before = c.part_row.new.store.matrices.items in
    let after = c.chosen_sets.new.store.matrices.items in
    let row = c.in_ok-row.row in
    let made = c.in_ok-made.made.items in
    let chosen = subst (λ (xs : List ℕ). AreChosen old new before after row xs c.in_ok-second.second.items made) c.deref.ensures.value
    (subst (λ (ys : List ℕ). AreChosen old new before after row c.deref.result.now ys made) c.deref-2.ensures.value c.in_ok-made.ensures.chosen) in
    choose_law belongs value ground known c.args.gates.now c.part_sets.new.gates c.part_sets-2.new.gates c.part_row.new.gates c.chosen_sets.new.gates c.args.store.now c.part_sets.new.store c.part_sets-2.new.store c.part_row.new.store c.chosen_sets.new.store
    (claim_of c.args.f.now) (term_of c.args.a.now) (term_of c.args.b.now) c.in_ok-first.first.items c.in_ok-second.second.items c.in_ok-made.made.items c.in_ok-row.row
    c.part_sets.ensures.keeps c.part_sets-2.ensures.keeps c.part_row.ensures.keeps c.requires.stored c.in_ok-first.ensures.stored c.in_ok-second.ensures.stored c.in_ok-first.ensures.extends c.in_ok-second.ensures.extends c.in_ok-row.ensures.stays
    c.in_ok-first.ensures.right c.in_ok-second.ensures.right c.in_ok-row.ensures.right chosen

pub returns-clause-extends : goal.returns-clause-extends
returns-clause-extends g c =
    let a = c.args.store.now in
    let b = c.part_sets.new.store in
    let d = c.part_sets-2.new.store in
    let e = c.part_row.new.store in
    let h = c.chosen_sets.new.store in
    extends_trans a b h c.in_ok-first.ensures.extends (extends_trans b d h c.in_ok-second.ensures.extends (extends_trans d e h (stays_extends d e c.in_ok-row.ensures.stays) c.in_ok-made.ensures.extends))
