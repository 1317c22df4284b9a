use Rattle.core_tree.specs.Trees.{claim_of}
use Rattle.bmc_leaves.proofs.RowLaws.{row_kept}
use Rattle.gate_trait.proofs.KeptLemmas.{keeps_trans}
use Rattle.bmc_walk.specs.Variables.{earlier_list}
use Rattle.bmc_places.proofs.GatherLaws.{rows_push}
use Rattle.bmc_walk.proofs.ChoiceLaws.{choice_law}
use Rattle.bmc_walk.proofs.choices.add_choice.Goals as goal

pub returns-clause-rows : goal.returns-clause-rows
returns-clause-rows g c =
    let value = g.G.Gates.node_value in
    let belongs = g.G.Gates.belongs in
    let ground = c.args.walk.now.ground.now in
    let known = c.args.known.now in
    let earlier = earlier_list c.args.earlier.now in
    let f = claim_of c.args.formula.now in
    let there = c.args.there.now in
    let already = c.args.all.now.items in
    rows_push belongs value c.args.gates.now c.both.new.gates (keeps_trans belongs value c.args.gates.now c.part_row.new.gates c.both.new.gates c.part_row.ensures.keeps c.both.ensures.keeps) already c.push.new.self.items _ c.requires.rows c.in_ok-row.ensures.belongs c.in_ok-push.ensures.items

pub returns-clause-right : goal.returns-clause-right
returns-clause-right g c =
    let value = g.G.Gates.node_value in
    let belongs = g.G.Gates.belongs in
    let ground = c.args.walk.now.ground.now in
    let known = c.args.known.now in
    let earlier = earlier_list c.args.earlier.now in
    let f = claim_of c.args.formula.now in
    let there = c.args.there.now in
    let already = c.args.all.now.items in
    choice_law ground known earlier (value c.args.gates.now) (value c.part_row.new.gates) (value c.both.new.gates) c.args.store.now.matrices.items f c.in_ok-body.body there already c.push.new.self.items _
    (row_kept belongs value c.args.gates.now c.part_row.new.gates c.part_row.ensures.keeps there c.requires.there)
    c.in_ok-body.ensures.right c.in_ok-row.ensures.both c.in_ok-tuple.ensures c.in_ok-push.ensures.items
