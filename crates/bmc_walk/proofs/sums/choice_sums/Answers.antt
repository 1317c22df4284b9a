use Rattle.std.proofs.Common.{◌≡◌, ◌∙◌, ◌+◌, List, map, length, refl, subst, ℕ, arith}
use Rattle.std.proofs.lemmas.Option.{slice_get_read}
use Rattle.gate_trait.proofs.KeptLemmas.{keeps_trans, keeps_refl}
use Rattle.core_tree.specs.Trees.{term_of, variable_of, variable_list}
use Rattle.bmc_places.specs.Sums.{AreAdded}
use Rattle.bmc_places.proofs.GatherLaws.{rows_kept}
use Rattle.bmc_places.proofs.StoreLaws.{extends_trans}
use Rattle.bmc_places.proofs.SumLaws.{rows_at, sums_none, stand_none, sums_turn, stand_turn}
use Rattle.bmc_walk.specs.Sums.{atoms_with, HasBody}
use Rattle.bmc_walk.specs.Walked.{atoms_of}
use Rattle.bmc_walk.proofs.SumLaws.{bodies_none, bodies_more, bodies_kept}
use Rattle.bmc_walk.proofs.sums.choice_sums.Goals as goal

pub loop-place-init : goal.loop-place-init
loop-place-init g c =
    let value = g.G.Gates.node_value in
    let belongs = g.G.Gates.belongs in
    let ground = c.args.walk.now.ground.now in
    let known = c.args.known.now in
    let first = c.args.gates.now in
    let vs = variable_list (map variable_of c.args.list.now) in
    let integers = c.constant_integers.new.store.integers.items in
    let cs = c.args.choices.now in
    let rows = c.new-rows.result.items in
    record {
      keeps = keeps_refl belongs value first;
      stored = c.in_ok-totals.ensures.stored;
      extends = c.in_ok-totals.ensures.extends;
      bodies = bodies_none ground vs (atoms_of known) (value first) (value first) c.args.store.now.matrices.items integers (term_of c.args.body.now) cs rows c.new-rows.ensures.items;
      stand = stand_none integers rows c.args.count c.new-rows.ensures.items;
      sums = sums_none (value first) integers ground.setting.universe.bits c.args.count cs rows c.in_ok-totals.totals.items c.new-rows.ensures.items c.in_ok-totals.ensures.constant;
    }

pub sum_places-requires-clause-row : goal.sum_places-requires-clause-row
sum_places-requires-clause-row g c =
    let value = g.G.Gates.node_value in
    let belongs = g.G.Gates.belongs in
    let first = c.args.gates.now in
    let now = c.loop-place.gates in
    let body = c.body_ints.new.gates in
    let cs = c.args.choices.now in
    let one = c.index-choices-place.result in
    let at = slice_get_read cs (length cs) c.loop-place.place one refl c.loop-place-test.true c.index-choices-place.is in
    rows_at (belongs body) cs c.loop-place.place one at (rows_kept belongs value first body (keeps_trans belongs value first now body c.loop-place.invariant.keeps c.body_ints.ensures.keeps) cs c.requires.rows)

pub loop-place-preserved : goal.loop-place-preserved
loop-place-preserved g c =
    let value = g.G.Gates.node_value in
    let belongs = g.G.Gates.belongs in
    let ground = c.args.walk.now.ground.now in
    let known = c.args.known.now in
    let before = c.loop-place.invariant in
    let first = c.args.gates.now in
    let now = c.loop-place.gates in
    let body = c.body_ints.new.gates in
    let later = c.sum_places.new.gates in
    let a = c.args.store.now in
    let b = c.loop-place.store in
    let d = c.body_ints.new.store in
    let e = c.sum_places.new.store in
    let cs = c.args.choices.now in
    let place = c.loop-place.place in
    let one = c.index-choices-place.result in
    let vs = variable_list (map variable_of c.args.list.now) in
    let term = term_of c.args.body.now in
    let n = c.in_ok-made.made in
    let rows = c.loop-place.rows.items in
    let more = c.push.new.self.items in
    let totals = c.loop-place.totals.items in
    let numbers = c.in_ok-more.more.items in
    let many = c.args.count in
    let at = slice_get_read cs (length cs) place one refl c.loop-place-test.true c.index-choices-place.is in
    let has = subst (λ (t : List ℕ). HasBody ground (atoms_with vs t (atoms_of known)) (value now) (value body) b.matrices.items d.integers.items term n.items) c.numbers-numbers.ensures c.in_ok-made.ensures.right in
    let added = subst (λ (xs : List ℕ). AreAdded (value body) (value later) d.integers.items e.integers.items one.row xs n.items many numbers) c.deref.ensures.value
    (subst (λ (ys : List ℕ). AreAdded (value body) (value later) d.integers.items e.integers.items one.row c.deref.result.now ys many numbers) c.deref-in-loop-place.ensures.value c.in_ok-more.ensures.sums) in
    let ex_bd = c.in_ok-made.ensures.extends in
    let ex_de = c.in_ok-more.ensures.extends in
    let bodies = bodies_more belongs value ground known first now body a b d vs (atoms_of known) term cs place rows more one n before.keeps c.body_ints.ensures.keeps c.requires.stored before.stored before.extends ex_bd at c.in_ok-push.ensures.items before.bodies has in
    record {
      keeps = keeps_trans belongs value first body later (keeps_trans belongs value first now body before.keeps c.body_ints.ensures.keeps) c.sum_places.ensures.keeps;
      stored = c.in_ok-more.ensures.stored;
      extends = extends_trans a d e (extends_trans a b d before.extends ex_bd) ex_de;
      bodies = bodies_kept belongs value ground known first body later a.matrices.items d e vs (atoms_of known) term cs (place + 1) more c.sum_places.ensures.keeps c.in_ok-made.ensures.stored ex_de bodies;
      stand = stand_turn belongs value body later b d e one.row rows more n many totals numbers ex_bd ex_de c.in_ok-push.ensures.items before.stand added;
      sums = sums_turn belongs value now body later b d e cs rows more one n ground.setting.universe.bits place many totals numbers c.body_ints.ensures.keeps c.sum_places.ensures.keeps before.stored ex_bd ex_de (rows_kept belongs value first now before.keeps cs c.requires.rows) at before.bodies.long c.in_ok-push.ensures.items before.stand before.sums added;
    }

pub returns-clause-bodies : goal.returns-clause-bodies
returns-clause-bodies g c = record {
  long = c.loop-place.invariant.bodies.long ∙ (let e : c.loop-place.place ≡ length c.args.choices.now = omega (arith, c.loop-place-test.false, c.loop-place.auto.place-end) in e);
  bodies = c.loop-place.invariant.bodies.bodies;
}

pub returns-clause-sums : goal.returns-clause-sums
returns-clause-sums g c = c.loop-place.invariant.sums
