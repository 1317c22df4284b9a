use Rattle.std.proofs.Common.{◌∙◌, List, map, Some, refl, sym, ap, subst, arith}
use Rattle.std.proofs.lemmas.Option.{slice_get-get_or}
use Rattle.std.proofs.lemmas.List.{nil_from_length}
use Rattle.gate_trait.proofs.KeptLemmas.{keeps_trans, keeps_refl}
use Rattle.core_tree.specs.declared.tree.Variable.{Variable}
use Rattle.core_tree.specs.Trees.{claim_of, variable_of, variable_list}
use Rattle.bmc_walk.specs.Variables.{earlier_list, HasEach}
use Rattle.bmc_places.proofs.StoreLaws.{stays_trans, stays_refl, cut_stays}
use Rattle.bmc_walk.proofs.FoundLaws.{said_true, said_false}
use Rattle.bmc_walk.proofs.EachLaws.{each_none, bound_law, atoms_none, atoms_step, atoms_all, adds_nothing, adds_held, not_single, single_is, other_apart}
use Rattle.bmc_walk.proofs.variables.+each.Goals as goal

pub each_row-returns-in_ok-row-in-None-clause-right : goal.each_row-returns-in_ok-row-in-None-clause-right
each_row-returns-in_ok-row-in-None-clause-right g t c =
    let value = g.G.Gates.node_value in
    let belongs = g.G.Gates.belongs in
    let ground = c.args.walk.now.ground.now in
    let known = c.args.known.now in
    let earlier = earlier_list c.args.earlier.now in
    let f = claim_of c.args.formula.now in
    each_none ground known earlier (value c.args.gates.now) (value c.part_row.new.gates) c.args.store.now.matrices.items c.args.list.now f c.in_ok-row-in-None.row (nil_from_length _ c.in-None.ensures.cases) c.in_ok-row-in-None.ensures.right

pub each_row-returns-in_ok-row-in-Some-clause-right : goal.each_row-returns-in_ok-row-in-Some-clause-right
each_row-returns-in_ok-row-in-Some-clause-right g t c =
    let value = g.G.Gates.node_value in
    let belongs = g.G.Gates.belongs in
    let ground = c.args.walk.now.ground.now in
    let known = c.args.known.now in
    let earlier = earlier_list c.args.earlier.now in
    let f = claim_of c.args.formula.now in
    subst (λ (vs : List Variable). HasEach ground known earlier (value c.args.gates.now) (value c.bound_row.new.gates) c.args.store.now.matrices.items (variable_list (map variable_of vs)) f c.in_ok-row-in-Some.row) (sym c.in-Some.ensures.cases.0) c.in_ok-row-in-Some.ensures.right

pub bound_row-returns-clause-stays : goal.bound_row-returns-clause-stays
bound_row-returns-clause-stays g t c =
    cut_stays c.args.store.now c.part_sets.new.store c.found_in.new.store c.atoms_row.new.store c.cut_to.new.store c.len-matrices.result c.len-integers.result (omega (arith, c.len-matrices.ensures, c.args.store.now.matrices.ok.0)) (omega (arith, c.len-integers.ensures, c.args.store.now.integers.ok.0)) c.in_ok-bound.ensures.extends c.in_ok-found.ensures.stays c.in_ok-row.ensures.stays c.cut_to.ensures.matrices c.cut_to.ensures.integers

pub bound_row-returns-clause-right : goal.bound_row-returns-clause-right
bound_row-returns-clause-right g t c =
    let value = g.G.Gates.node_value in
    let belongs = g.G.Gates.belongs in
    let ground = c.args.walk.now.ground.now in
    let known = c.args.known.now in
    let earlier = earlier_list c.args.earlier.now in
    let f = claim_of c.args.formula.now in
    bound_law belongs value ground known earlier c.args.gates.now c.part_sets.new.gates c.atoms_row.new.gates c.args.store.now c.part_sets.new.store c.found_in.new.store (variable_of c.args.variable.now) (variable_list (map variable_of c.args.rest.now)) f c.in_ok-bound.bound.items c.in_ok-found.found.tuples.items c.in_ok-found.found.nodes c.in_ok-row.row
    c.part_sets.ensures.keeps c.requires.stored c.in_ok-bound.ensures.stored c.in_ok-bound.ensures.extends c.in_ok-found.ensures.stays (omega (arith, c.len-count.ensures, ground.setting.frame.now.shown.ok.0, c.len.ensures, c.in_ok-bound.bound.ok.0, c.if-len-count.false))
    c.in_ok-bound.ensures.right c.in_ok-found.ensures.members c.in_ok-found.ensures.says c.in_ok-row.ensures.right

pub atoms_row-loop-place-init : goal.atoms_row-loop-place-init
atoms_row-loop-place-init g t c =
    let value = g.G.Gates.node_value in
    let belongs = g.G.Gates.belongs in
    let ground = c.args.walk.now.ground.now in
    let known = c.args.known.now in
    let earlier = earlier_list c.args.earlier.now in
    let f = claim_of c.args.formula.now in
    record {
      keeps = keeps_refl belongs value c.args.gates.now;
      stored = c.requires.stored;
      stays = stays_refl c.args.store.now;
      belong = c.in_ok-all.ensures.belongs;
      right = atoms_none ground known earlier (value c.args.gates.now) c.args.store.now.matrices.items (variable_of c.args.variable.now) (variable_list (map variable_of c.args.rest.now)) f c.args.found.now.tuples.items c.args.found.now.nodes c.in_ok-all.all c.len-count.result (omega (arith, c.len-count.ensures, ground.setting.frame.now.shown.ok.0)) c.in_ok-all.ensures.values;
    }

pub atoms_row-loop-place-preserved : goal.atoms_row-loop-place-preserved
atoms_row-loop-place-preserved g t c =
    let value = g.G.Gates.node_value in
    let belongs = g.G.Gates.belongs in
    let ground = c.args.walk.now.ground.now in
    let known = c.args.known.now in
    let earlier = earlier_list c.args.earlier.now in
    let f = claim_of c.args.formula.now in
    let before = c.loop-place.invariant in
    let first = c.args.gates.now in
    let now = c.loop-place.gates in
    let later = c.atom_row.new.gates in
    record {
      keeps = keeps_trans belongs value first now later before.keeps c.atom_row.ensures.keeps;
      stored = c.in_ok-more.ensures.stored;
      stays = stays_trans c.args.store.now c.loop-place.store c.atom_row.new.store before.stays c.in_ok-more.ensures.stays;
      belong = c.in_ok-more.ensures.belongs;
      right = atoms_step belongs value ground known earlier first now later c.args.store.now c.loop-place.store (variable_of c.args.variable.now) (variable_list (map variable_of c.args.rest.now)) f c.args.found.now.tuples.items c.args.found.now.nodes c.loop-place.place c.loop-place.all c.in_ok-more.more before.keeps c.requires.stored before.stays c.requires.nodes before.right c.in_ok-more.ensures.right;
    }

pub atoms_row-returns-clause-right : goal.atoms_row-returns-clause-right
atoms_row-returns-clause-right g t c =
    let value = g.G.Gates.node_value in
    let belongs = g.G.Gates.belongs in
    let ground = c.args.walk.now.ground.now in
    let known = c.args.known.now in
    let earlier = earlier_list c.args.earlier.now in
    let f = claim_of c.args.formula.now in
    atoms_all ground known earlier _ _ _ _ _ _ c.args.found.now.tuples.items c.args.found.now.nodes c.loop-place.place c.loop-place.all (omega (arith, c.loop-place-test.false, c.len-place-end.ensures, c.args.found.now.tuples.ok.0)) c.loop-place.invariant.right

pub atom_row-returns-then-numbers-ne1-clause-right : goal.atom_row-returns-then-numbers-ne1-clause-right
atom_row-returns-then-numbers-ne1-clause-right g t c =
    let value = g.G.Gates.node_value in
    let belongs = g.G.Gates.belongs in
    let ground = c.args.walk.now.ground.now in
    let known = c.args.known.now in
    let earlier = earlier_list c.args.earlier.now in
    let f = claim_of c.args.formula.now in
    let at = slice_get-get_or c.args.found.now.tuples.items c.args.place c.index-tuple.result.now c.requires.place ∙ ap Some (sym c.index-tuple.ensures) in
    adds_nothing ground known earlier (value c.args.gates.now) c.args.store.now.matrices.items (variable_of c.args.variable.now) (variable_list (map variable_of c.args.rest.now)) f c.args.found.now.tuples.items c.args.found.now.nodes c.args.place c.args.all c.index-tuple.result.now at
    (λ a is apart. not_single c.index-tuple.result.now c.numbers-numbers.result.now a c.numbers-numbers.ensures (λ e. omega (arith, e, c.if-numbers-ne1.true)) is)

pub atom_row-returns-then-not-apart-clause-right : goal.atom_row-returns-then-not-apart-clause-right
atom_row-returns-then-not-apart-clause-right g t c =
    let value = g.G.Gates.node_value in
    let belongs = g.G.Gates.belongs in
    let ground = c.args.walk.now.ground.now in
    let known = c.args.known.now in
    let earlier = earlier_list c.args.earlier.now in
    let f = claim_of c.args.formula.now in
    let at = slice_get-get_or c.args.found.now.tuples.items c.args.place c.index-tuple.result.now c.requires.place ∙ ap Some (sym c.index-tuple.ensures) in
    let is = single_is c.index-tuple.result.now c.numbers-numbers.result.now c.numbers-numbers.ensures (omega (arith, c.if-numbers-ne1.false)) in
    adds_nothing ground known earlier (value c.args.gates.now) c.args.store.now.matrices.items (variable_of c.args.variable.now) (variable_list (map variable_of c.args.rest.now)) f c.args.found.now.tuples.items c.args.found.now.nodes c.args.place c.args.all c.index-tuple.result.now at
    (λ a same apart. said_false c.is_apart-apart.result c.is_apart-apart.ensures c.if-not-apart.true (other_apart c.args.variable.now.apart a _ earlier c.index-tuple.result.now same is apart))

pub atom_row-returns-clause-right : goal.atom_row-returns-clause-right
atom_row-returns-clause-right g t c =
    let value = g.G.Gates.node_value in
    let belongs = g.G.Gates.belongs in
    let ground = c.args.walk.now.ground.now in
    let known = c.args.known.now in
    let earlier = earlier_list c.args.earlier.now in
    let f = claim_of c.args.formula.now in
    let at = slice_get-get_or c.args.found.now.tuples.items c.args.place c.index-tuple.result.now c.requires.place ∙ ap Some (sym c.index-tuple.ensures) in
    let is = single_is c.index-tuple.result.now c.numbers-numbers.result.now c.numbers-numbers.ensures (omega (arith, c.if-numbers-ne1.false)) in
    adds_held belongs value ground known _ earlier c.args.gates.now c.each_row.new.gates c.held_where.new.gates c.args.store.now.matrices.items (variable_of c.args.variable.now) (variable_list (map variable_of c.args.rest.now)) f c.args.found.now.tuples.items c.args.found.now.nodes c.args.place _ c.in_ok-from.from c.len-count.result c.args.all c.in_ok-more.more c.in_ok-row.row
    refl c.each_row.ensures.keeps c.requires.all c.requires.nodes (at ∙ ap Some is) (said_true c.is_apart-apart.result c.is_apart-apart.ensures c.if-not-apart.false) (omega (arith, c.len-count.ensures, ground.setting.frame.now.shown.ok.0)) c.in_ok-from.ensures
    c.in_ok-more.ensures.right c.in_ok-row.ensures.held
