use Rattle.core_tree.specs.Trees.{claim_of, temporal}
use Rattle.core_tree.specs.declared.operators.TemporalUnary.TheVariants.{Before}
use Rattle.bmc_leaves.proofs.RightLaws.{before_right}
use Rattle.bmc_walk.proofs.WalkLaws.{one_row, one_less}
use Rattle.bmc_walk.proofs.formulas.before_row.Goals as goal

pub returns-clause-right : goal.returns-clause-right
returns-clause-right g c =
    let value = g.G.Gates.node_value in
    let belongs = g.G.Gates.belongs in
    let ground = c.args.walk.now.ground.now in
    let known = c.args.known.now in
    let f = claim_of c.args.f.now in
    let now = value c.part_row.new.gates in
    let new = value c.moving.new.gates in
    one_row belongs value ground known (value c.args.gates.now) now new c.args.store.now.matrices.items f (temporal Before f) c.in_ok-first.first c.in_ok-row.row
    (λ n le. one_less _ n le) c.in_ok-first.ensures.right (λ n ok le right. before_right _ now new f c.in_ok-always.always c.in_ok-first.first c.in_ok-row.row ok right (c.in_ok-row.ensures.along _ _ ok.frame))
