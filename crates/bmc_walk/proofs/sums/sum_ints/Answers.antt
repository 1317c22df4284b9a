use Rattle.std.proofs.Common.{List, map, sym, subst, arith}
use Rattle.std.specs.List.Sorted.{IsStrictlySortedBy}
use Rattle.core_tree.specs.Trees.{term_of, variable_of, variable_list}
use Rattle.core_tuples.specs.Sets.{tuple_cmp}
use Rattle.bmc_places.specs.declared.gathering.Choice.{Choice}
use Rattle.bmc_places.specs.Gathered.{AllRows}
use Rattle.bmc_places.specs.Sums.{AreSums}
use Rattle.bmc_places.proofs.StoreLaws.{extends_trans, stays_extends}
use Rattle.bmc_walk.specs.Sums.{AreBodies}
use Rattle.bmc_walk.specs.Walked.{atoms_of}
use Rattle.bmc_walk.proofs.SumLaws.{sum_law, all_true}
use Rattle.bmc_walk.proofs.sums.sum_ints.Goals as goal

pub returns-clause-extends : goal.returns-clause-extends
returns-clause-extends g c = extends_trans c.args.store.now c.add_choices.new.store c.choice_sums.new.store (stays_extends c.args.store.now c.add_choices.new.store c.in_ok-add_choices.ensures.stays) c.in_ok-made.ensures.extends

pub choice_sums-requires-clause-rows : goal.choice_sums-requires-clause-rows
choice_sums-requires-clause-rows g c = subst (λ (cs : List Choice). AllRows (g.G.Gates.belongs c.add_choices.new.gates) cs) (sym c.deref-2.ensures.value) c.in_ok-add_choices.ensures.rows

pub returns-clause-right : goal.returns-clause-right
returns-clause-right g c =
    let value = g.G.Gates.node_value in
    let belongs = g.G.Gates.belongs in
    let ground = c.args.walk.now.ground.now in
    let known = c.args.known.now in
    let h = c.add_choices.new.gates in
    let j = c.choice_sums.new.gates in
    let a = c.args.store.now in
    let b = c.add_choices.new.store in
    let e = c.choice_sums.new.store in
    let vs = variable_list (map variable_of c.args.list.now) in
    let body = term_of c.args.body.now in
    let choices = c.add_choices.new.all.items in
    let rows = c.in_ok-made.made.rows.items in
    let width = ground.setting.universe.bits in
    let many = c.len-count.result in
    let made = c.in_ok-made.made.totals.items in
    let rising = subst (λ (cs : List Choice). IsStrictlySortedBy tuple_cmp (map (λ (q : Choice). q.tuple) cs)) c.deref.ensures.value (c.are_rising-rises.ensures c.if-not-rises.false) in
    let bodies = subst (λ (cs : List Choice). AreBodies ground vs (atoms_of known) (value h) (value j) b.matrices.items e.integers.items body cs rows) c.deref-2.ensures.value c.in_ok-made.ensures.bodies in
    let sums = subst (λ (cs : List Choice). AreSums (value j) (value j) e.integers.items e.integers.items width cs rows many made) c.deref-2.ensures.value c.in_ok-made.ensures.sums in
    sum_law belongs value ground known c.args.gates.now h j j a b e e vs _ body c.in_ok-there.there _ choices rows many made
    c.add_choices.ensures.keeps c.choice_sums.ensures.keeps c.requires.stored c.in_ok-add_choices.ensures.stays c.new-choices.ensures.items (all_true _ c.new.ensures.items) (omega (arith, c.len-count.ensures, ground.setting.frame.now.shown.ok.0)) c.in_ok-there.ensures.values
    c.in_ok-add_choices.ensures.right c.in_ok-add_choices.ensures.rows rising bodies sums
