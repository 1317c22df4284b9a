use Rattle.std.proofs.Common.{◌∙◌, List, map, Some, refl, sym, ap, subst, rules, arith}
use Rattle.std.proofs.lemmas.Option.{slice_get-get_or}
use Rattle.std.proofs.lemmas.List.{nil_from_length}
use Rattle.gate_trait.proofs.KeptLemmas.{keeps_trans, keeps_refl}
use Rattle.core_tree.specs.declared.tree.Variable.{Variable}
use Rattle.core_tree.specs.Trees.{claim_of, variable_of, variable_list}
use Rattle.bmc_places.specs.Gathered.{AllRows}
use Rattle.bmc_walk.specs.Variables.{earlier_list}
use Rattle.bmc_walk.specs.Choices.{FindChoices}
use Rattle.bmc_places.proofs.StoreLaws.{stays_trans, stays_refl, cut_stays}
use Rattle.bmc_walk.proofs.FoundLaws.{said_true, said_false}
use Rattle.bmc_walk.proofs.EachLaws.{not_single, single_is, other_apart}
use Rattle.bmc_places.proofs.GatherLaws.{rows_kept}
use Rattle.bmc_walk.proofs.ChoiceLaws.{no_list, bound_found, found_start, found_step, found_all, finds_nothing, finds_atom}
use Rattle.bmc_walk.proofs.choices.+choices.Goals as goal

pub add_choices-returns-in_ok-add_choice-in-None-clause-right : goal.add_choices-returns-in_ok-add_choice-in-None-clause-right
add_choices-returns-in_ok-add_choice-in-None-clause-right g t c =
    let value = g.G.Gates.node_value in
    let belongs = g.G.Gates.belongs in
    let ground = c.args.walk.now.ground.now in
    let known = c.args.known.now in
    let earlier = earlier_list c.args.earlier.now in
    let f = claim_of c.args.formula.now in
    let there = c.args.there.now in
    let already = c.args.all.now.items in
    no_list ground known earlier (value c.args.gates.now) (value c.add_choice.new.gates) c.args.store.now.matrices.items c.args.list.now f there already c.add_choice.new.all.items (nil_from_length _ c.in-None.ensures.cases) c.in_ok-add_choice-in-None.ensures.right

pub add_choices-returns-in_ok-add_bound-in-Some-clause-right : goal.add_choices-returns-in_ok-add_bound-in-Some-clause-right
add_choices-returns-in_ok-add_bound-in-Some-clause-right g t c =
    let value = g.G.Gates.node_value in
    let belongs = g.G.Gates.belongs in
    let ground = c.args.walk.now.ground.now in
    let known = c.args.known.now in
    let earlier = earlier_list c.args.earlier.now in
    let f = claim_of c.args.formula.now in
    let there = c.args.there.now in
    let already = c.args.all.now.items in
    subst (λ (vs : List Variable). FindChoices ground known earlier (value c.args.gates.now) (value c.add_bound.new.gates) c.args.store.now.matrices.items (variable_list (map variable_of vs)) f there already c.add_bound.new.all.items) (sym c.in-Some.ensures.cases.0) c.in_ok-add_bound-in-Some.ensures.right

pub add_bound-add_atoms-requires : goal.add_bound-add_atoms-requires
add_bound-add_atoms-requires g t c =
    let value = g.G.Gates.node_value in
    let belongs = g.G.Gates.belongs in
    let rows : AllRows (belongs c.part_sets.new.gates) c.args.all.now.items = rows_kept belongs value c.args.gates.now c.part_sets.new.gates c.part_sets.ensures.keeps c.args.all.now.items c.requires.rows in
    search rules

pub add_bound-returns-clause-stays : goal.add_bound-returns-clause-stays
add_bound-returns-clause-stays g t c =
    cut_stays c.args.store.now c.part_sets.new.store c.found_in.new.store c.add_atoms.new.store c.cut_to.new.store c.len-matrices.result c.len-integers.result (omega (arith, c.len-matrices.ensures, c.args.store.now.matrices.ok.0)) (omega (arith, c.len-integers.ensures, c.args.store.now.integers.ok.0)) c.in_ok-bound.ensures.extends c.in_ok-found.ensures.stays c.in_ok-add_atoms.ensures.stays c.cut_to.ensures.matrices c.cut_to.ensures.integers

pub add_bound-returns-clause-right : goal.add_bound-returns-clause-right
add_bound-returns-clause-right g t c =
    let value = g.G.Gates.node_value in
    let belongs = g.G.Gates.belongs in
    let ground = c.args.walk.now.ground.now in
    let known = c.args.known.now in
    let earlier = earlier_list c.args.earlier.now in
    let f = claim_of c.args.formula.now in
    let there = c.args.there.now in
    let already = c.args.all.now.items in
    bound_found belongs value ground known earlier c.args.gates.now c.part_sets.new.gates c.add_atoms.new.gates c.args.store.now c.part_sets.new.store c.found_in.new.store (variable_of c.args.variable.now) (variable_list (map variable_of c.args.rest.now)) f c.in_ok-bound.bound.items c.in_ok-found.found.tuples.items c.in_ok-found.found.nodes there already c.add_atoms.new.all.items
    c.part_sets.ensures.keeps c.requires.stored c.in_ok-bound.ensures.extends c.in_ok-found.ensures.stays c.requires.there (omega (arith, c.len-count.ensures, ground.setting.frame.now.shown.ok.0, c.len.ensures, c.in_ok-bound.bound.ok.0, c.if-len-count.false))
    c.in_ok-bound.ensures.right c.in_ok-found.ensures.members c.in_ok-found.ensures.says c.in_ok-add_atoms.ensures.right

pub add_atoms-loop-place-init : goal.add_atoms-loop-place-init
add_atoms-loop-place-init g t c =
    let value = g.G.Gates.node_value in
    let belongs = g.G.Gates.belongs in
    let ground = c.args.walk.now.ground.now in
    let known = c.args.known.now in
    let earlier = earlier_list c.args.earlier.now in
    let f = claim_of c.args.formula.now in
    let there = c.args.there.now in
    let already = c.args.all.now.items in
    record {
      keeps = keeps_refl belongs value c.args.gates.now;
      stored = c.requires.stored;
      stays = stays_refl c.args.store.now;
      rows = c.requires.rows;
      found = found_start ground known earlier (value c.args.gates.now) c.args.store.now.matrices.items (variable_of c.args.variable.now) (variable_list (map variable_of c.args.rest.now)) f c.args.found.now.tuples.items c.args.found.now.nodes there already;
    }

pub add_atoms-loop-place-preserved : goal.add_atoms-loop-place-preserved
add_atoms-loop-place-preserved g t c =
    let value = g.G.Gates.node_value in
    let belongs = g.G.Gates.belongs in
    let ground = c.args.walk.now.ground.now in
    let known = c.args.known.now in
    let earlier = earlier_list c.args.earlier.now in
    let f = claim_of c.args.formula.now in
    let there = c.args.there.now in
    let already = c.args.all.now.items in
    let before = c.loop-place.invariant in
    let first = c.args.gates.now in
    let now = c.loop-place.gates in
    let later = c.add_atom.new.gates in
    record {
      keeps = keeps_trans belongs value first now later before.keeps c.add_atom.ensures.keeps;
      stored = c.in_ok-add_atom.ensures.stored;
      stays = stays_trans c.args.store.now c.loop-place.store c.add_atom.new.store before.stays c.in_ok-add_atom.ensures.stays;
      rows = c.in_ok-add_atom.ensures.rows;
      found = found_step belongs value ground known earlier first now later c.args.store.now c.loop-place.store (variable_of c.args.variable.now) (variable_list (map variable_of c.args.rest.now)) f c.args.found.now.tuples.items c.args.found.now.nodes there c.loop-place.place already c.loop-place.all.items c.add_atom.new.all.items before.keeps c.add_atom.ensures.keeps c.requires.stored before.stays c.requires.nodes c.requires.there before.rows (omega (arith, c.loop-place-test.true, c.len-place-end.ensures)) before.found c.in_ok-add_atom.ensures.right;
    }

pub add_atoms-returns-clause-right : goal.add_atoms-returns-clause-right
add_atoms-returns-clause-right g t c =
    let value = g.G.Gates.node_value in
    let belongs = g.G.Gates.belongs in
    let ground = c.args.walk.now.ground.now in
    let known = c.args.known.now in
    let earlier = earlier_list c.args.earlier.now in
    let f = claim_of c.args.formula.now in
    let there = c.args.there.now in
    let already = c.args.all.now.items in
    found_all ground known earlier _ _ _ _ _ _ c.args.found.now.tuples.items c.args.found.now.nodes there c.loop-place.place already c.loop-place.all.items (omega (arith, c.loop-place-test.false, c.len-place-end.ensures, c.args.found.now.tuples.ok.0)) c.loop-place.invariant.found

pub add_atom-returns-then-numbers-ne1-clause-right : goal.add_atom-returns-then-numbers-ne1-clause-right
add_atom-returns-then-numbers-ne1-clause-right g t c =
    let value = g.G.Gates.node_value in
    let belongs = g.G.Gates.belongs in
    let ground = c.args.walk.now.ground.now in
    let known = c.args.known.now in
    let earlier = earlier_list c.args.earlier.now in
    let f = claim_of c.args.formula.now in
    let there = c.args.there.now in
    let already = c.args.all.now.items in
    let at = slice_get-get_or c.args.found.now.tuples.items c.args.place c.index-tuple.result.now c.requires.place ∙ ap Some (sym c.index-tuple.ensures) in
    finds_nothing ground known earlier (value c.args.gates.now) c.args.store.now.matrices.items (variable_of c.args.variable.now) (variable_list (map variable_of c.args.rest.now)) f c.args.found.now.tuples.items c.args.found.now.nodes c.args.place there already c.index-tuple.result.now at
    (λ a is apart. not_single c.index-tuple.result.now c.numbers-numbers.result.now a c.numbers-numbers.ensures (λ e. omega (arith, e, c.if-numbers-ne1.true)) is)

pub add_atom-returns-then-not-apart-clause-right : goal.add_atom-returns-then-not-apart-clause-right
add_atom-returns-then-not-apart-clause-right g t c =
    let value = g.G.Gates.node_value in
    let belongs = g.G.Gates.belongs in
    let ground = c.args.walk.now.ground.now in
    let known = c.args.known.now in
    let earlier = earlier_list c.args.earlier.now in
    let f = claim_of c.args.formula.now in
    let there = c.args.there.now in
    let already = c.args.all.now.items in
    let at = slice_get-get_or c.args.found.now.tuples.items c.args.place c.index-tuple.result.now c.requires.place ∙ ap Some (sym c.index-tuple.ensures) in
    let is = single_is c.index-tuple.result.now c.numbers-numbers.result.now c.numbers-numbers.ensures (omega (arith, c.if-numbers-ne1.false)) in
    finds_nothing ground known earlier (value c.args.gates.now) c.args.store.now.matrices.items (variable_of c.args.variable.now) (variable_list (map variable_of c.args.rest.now)) f c.args.found.now.tuples.items c.args.found.now.nodes c.args.place there already c.index-tuple.result.now at
    (λ a same apart. said_false c.is_apart-apart.result c.is_apart-apart.ensures c.if-not-apart.true (other_apart c.args.variable.now.apart a _ earlier c.index-tuple.result.now same is apart))

pub add_atom-add_choices-requires : goal.add_atom-add_choices-requires
add_atom-add_choices-requires g t c =
    let value = g.G.Gates.node_value in
    let belongs = g.G.Gates.belongs in
    let rows : AllRows (belongs c.both_part.new.gates) c.args.all.now.items = rows_kept belongs value c.args.gates.now c.both_part.new.gates c.both_part.ensures.keeps c.args.all.now.items c.requires.rows in
    search rules

pub add_atom-returns-clause-right : goal.add_atom-returns-clause-right
add_atom-returns-clause-right g t c =
    let value = g.G.Gates.node_value in
    let belongs = g.G.Gates.belongs in
    let ground = c.args.walk.now.ground.now in
    let known = c.args.known.now in
    let earlier = earlier_list c.args.earlier.now in
    let f = claim_of c.args.formula.now in
    let there = c.args.there.now in
    let already = c.args.all.now.items in
    let at = slice_get-get_or c.args.found.now.tuples.items c.args.place c.index-tuple.result.now c.requires.place ∙ ap Some (sym c.index-tuple.ensures) in
    let is = single_is c.index-tuple.result.now c.numbers-numbers.result.now c.numbers-numbers.ensures (omega (arith, c.if-numbers-ne1.false)) in
    finds_atom belongs value ground known _ earlier c.args.gates.now c.both_part.new.gates c.add_choices.new.gates c.args.store.now (variable_of c.args.variable.now) (variable_list (map variable_of c.args.rest.now)) f c.args.found.now.tuples.items c.args.found.now.nodes c.args.place _ c.in_ok-from.from c.len-count.result there c.in_ok-here.here already c.add_choices.new.all.items
    refl c.both_part.ensures.keeps c.requires.stored (at ∙ ap Some is) (said_true c.is_apart-apart.result c.is_apart-apart.ensures c.if-not-apart.false) (omega (arith, c.len-count.ensures, ground.setting.frame.now.shown.ok.0)) c.in_ok-from.ensures
    c.in_ok-here.ensures.both c.in_ok-add_choices.ensures.right
