use Rattle.std.proofs.Common.{List, map, subst, arith}
use Rattle.bmc_places.specs.declared.gathering.Choice.{Choice}
use Rattle.bmc_places.specs.Gathered.{AreGathered}
use Rattle.core_tree.specs.Trees.{claim_of, variable_of, variable_list}
use Rattle.bmc_walk.proofs.ChoiceLaws.{comprehension_law}
use Rattle.bmc_places.proofs.StoreLaws.{stays_extends, extends_trans}
use Rattle.bmc_walk.proofs.choices.comprehension_sets.Goals as goal

pub returns-clause-extends : goal.returns-clause-extends
returns-clause-extends g c = extends_trans c.args.store.now c.add_choices.new.store c.gathered_sets.new.store (stays_extends c.args.store.now c.add_choices.new.store c.in_ok-add_choices.ensures.stays) c.in_ok-made.ensures.extends

pub returns-clause-right : goal.returns-clause-right
returns-clause-right g c =
    let value = g.G.Gates.node_value in
    let belongs = g.G.Gates.belongs in
    let ground = c.args.walk.now.ground.now in
    let known = c.args.known.now in
    let gathered = subst (λ (cs : List Choice). AreGathered (value c.add_choices.new.gates) (value c.gathered_sets.new.gates) c.gathered_sets.new.store.matrices.items cs c.len-count.result c.in_ok-made.made.items) c.deref.ensures.value c.in_ok-made.ensures.gathered in
    comprehension_law belongs value ground known c.args.gates.now c.add_choices.new.gates c.gathered_sets.new.gates c.args.store.now c.add_choices.new.store c.gathered_sets.new.store (variable_list (map variable_of c.args.list.now)) (claim_of c.args.formula.now) c.in_ok-there.there c.add_choices.new.all.items c.len-count.result c.in_ok-made.made.items _ c.new-choices.ensures.items
    (omega (arith, c.len-count.ensures, ground.setting.frame.now.shown.ok.0)) c.in_ok-there.ensures.values c.in_ok-add_choices.ensures.right gathered
