use Rattle.bmc_walk.proofs.LeafLaws.{field_kept}
use Rattle.bmc_walk.proofs.leaves.field_leaf.Goals as goal

pub returns : goal.returns
returns c = field_kept c.args.ground.now c.in_ok-value.value.items c.args.field c.in_ok-number.number c.in_ok-number.ensures c.in_ok-value.ensures.inside c.in_ok-value.ensures.kept
