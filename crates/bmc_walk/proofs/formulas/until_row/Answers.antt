use Rattle.std.proofs.Common.{◌+◌, arith}
use Rattle.core_tree.specs.Trees.{claim_of, temporal_pair}
use Rattle.core_tree.specs.declared.operators.TemporalBinary.TheVariants.{Until}
use Rattle.gate_trait.proofs.KeptLemmas.{all_kept, keeps_trans}
use Rattle.bmc_leaves.proofs.KeptLaws.{right_kept}
use Rattle.bmc_leaves.proofs.LoopLaws.{chosen_of}
use Rattle.bmc_leaves.proofs.RightLaws.{until_right}
use Rattle.bmc_walk.specs.Walked.{read_in}
use Rattle.bmc_walk.proofs.WalkLaws.{two_rows}
use Rattle.bmc_walk.proofs.formulas.until_row.Goals as goal

pub until_row-requires-clause-f_belongs : goal.until_row-requires-clause-f_belongs
until_row-requires-clause-f_belongs g c = all_kept g.G.Gates.belongs g.G.Gates.node_value c.part_row.new.gates c.loop_choices.new.gates (keeps_trans g.G.Gates.belongs g.G.Gates.node_value c.part_row.new.gates c.part_row-2.new.gates c.loop_choices.new.gates c.part_row-2.ensures.keeps c.loop_choices.ensures.keeps) c.in_ok-first.first c.in_ok-first.ensures.belongs

pub until_row-requires-clause-g_belongs : goal.until_row-requires-clause-g_belongs
until_row-requires-clause-g_belongs g c = all_kept g.G.Gates.belongs g.G.Gates.node_value c.part_row-2.new.gates c.loop_choices.new.gates c.loop_choices.ensures.keeps c.in_ok-second.second c.in_ok-second.ensures.belongs

pub returns-clause-right : goal.returns-clause-right
returns-clause-right g c =
    let value = g.G.Gates.node_value in
    let belongs = g.G.Gates.belongs in
    let ground = c.args.walk.now.ground.now in
    let known = c.args.known.now in
    let f = claim_of c.args.f.now in
    let k = claim_of c.args.g.now in
    let begun = c.part_row.new.gates in
    let mid = c.part_row-2.new.gates in
    let now = c.loop_choices.new.gates in
    let later = c.until_row.new.gates in
    let first = c.in_ok-first.first in
    let second = c.in_ok-second.second in
    let row = c.in_ok-row.row in
    let kept = c.loop_choices.ensures.keeps in
    let belong = all_kept belongs value begun mid c.part_row-2.ensures.keeps first c.in_ok-first.ensures.belongs in
    two_rows belongs value ground known c.args.gates.now begun mid later c.args.store.now c.part_row.new.store f k (temporal_pair Until f k) first second row
    c.part_row.ensures.keeps c.part_row-2.ensures.keeps c.requires.stored c.in_ok-first.ensures.stays c.in_ok-first.ensures.belongs
    (λ n le. le) c.in_ok-first.ensures.right c.in_ok-second.ensures.right
    (λ n ok le_f le_k left right.
    let r = read_in ground known n in
    let one = right_kept belongs value r mid now kept f first belong left in
    let two = right_kept belongs value r mid now kept k second c.in_ok-second.ensures.belongs right in
    let until = c.in_ok-row.ensures.until r.bounds.states (r.depth + 1) (omega arith) ok.frame in
    until_right r (value now) (value later) f k first second row ok le_f le_k one two until.long
    (λ x s shown. until.values x s (chosen_of r (value now) c.in_ok-choices.choices x s c.in_ok-choices.ensures.choices shown)))
