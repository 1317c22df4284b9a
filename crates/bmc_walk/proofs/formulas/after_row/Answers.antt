use Rattle.core_tree.specs.Trees.{claim_of, temporal}
use Rattle.core_tree.specs.declared.operators.TemporalUnary.TheVariants.{After}
use Rattle.gate_trait.proofs.KeptLemmas.{all_kept}
use Rattle.bmc_leaves.proofs.KeptLaws.{right_kept}
use Rattle.bmc_leaves.proofs.LoopLaws.{chosen_of}
use Rattle.bmc_leaves.proofs.RightLaws.{after_right}
use Rattle.bmc_walk.specs.Walked.{read_in}
use Rattle.bmc_walk.proofs.WalkLaws.{one_row}
use Rattle.bmc_walk.proofs.formulas.after_row.Goals as goal

pub next_row-requires-clause-row : goal.next_row-requires-clause-row
next_row-requires-clause-row g c = all_kept g.G.Gates.belongs g.G.Gates.node_value c.part_row.new.gates c.loop_choices.new.gates c.loop_choices.ensures.keeps c.in_ok-first.first c.in_ok-first.ensures.belongs

pub returns-clause-right : goal.returns-clause-right
returns-clause-right g c =
    let value = g.G.Gates.node_value in
    let belongs = g.G.Gates.belongs in
    let ground = c.args.walk.now.ground.now in
    let known = c.args.known.now in
    let f = claim_of c.args.f.now in
    let begun = c.part_row.new.gates in
    let now = c.loop_choices.new.gates in
    let later = c.next_row.new.gates in
    let first = c.in_ok-first.first in
    let row = c.in_ok-row.row in
    one_row belongs value ground known (value c.args.gates.now) (value begun) (value later) c.args.store.now.matrices.items f (temporal After f) first row
    (λ n le. le) c.in_ok-first.ensures.right
    (λ n ok le right.
    let r = read_in ground known n in
    let here = right_kept belongs value r begun now c.loop_choices.ensures.keeps f first c.in_ok-first.ensures.belongs right in
    let next = c.in_ok-row.ensures.next in
    after_right r (value now) (value later) f first row ok le here next.long
    (λ x s i j shown at is. next.values x s i j (chosen_of r (value now) c.in_ok-choices.choices x s c.in_ok-choices.ensures.choices shown) at is))
