use Rattle.core_tree.specs.Trees.{claim_of, temporal_pair}
use Rattle.core_tree.specs.declared.operators.TemporalBinary.TheVariants.{Since}
use Rattle.bmc_leaves.proofs.RightLaws.{since_right}
use Rattle.bmc_walk.specs.Walked.{read_in}
use Rattle.bmc_walk.proofs.WalkLaws.{two_rows, one_less}
use Rattle.bmc_walk.proofs.formulas.since_row.Goals as goal

pub returns-clause-right : goal.returns-clause-right
returns-clause-right g c =
    let value = g.G.Gates.node_value in
    let belongs = g.G.Gates.belongs in
    let ground = c.args.walk.now.ground.now in
    let known = c.args.known.now in
    let f = claim_of c.args.f.now in
    let k = claim_of c.args.g.now in
    let now = value c.part_row-2.new.gates in
    let new = value c.moving.new.gates in
    two_rows belongs value ground known c.args.gates.now c.part_row.new.gates c.part_row-2.new.gates c.moving.new.gates c.args.store.now c.part_row.new.store f k (temporal_pair Since f k) c.in_ok-first.first c.in_ok-second.second c.in_ok-row.row
    c.part_row.ensures.keeps c.part_row-2.ensures.keeps c.requires.stored c.in_ok-first.ensures.stays c.in_ok-first.ensures.belongs
    (λ n le. one_less _ n le) c.in_ok-first.ensures.right c.in_ok-second.ensures.right
    (λ n ok le_f le_k left right. since_right (read_in ground known n) now new f k c.in_ok-first.first c.in_ok-second.second c.in_ok-row.row ok left right (c.in_ok-row.ensures.along _ _ ok.frame))
