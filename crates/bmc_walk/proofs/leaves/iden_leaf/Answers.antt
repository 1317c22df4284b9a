use Rattle.bmc_walk.proofs.LeafLaws.{iden_kept}
use Rattle.bmc_walk.proofs.leaves.iden_leaf.Goals as goal

pub returns : goal.returns
returns c = iden_kept c.args.ground.now c.in_ok-value.value.items c.in_ok-number.number c.in_ok-number.ensures c.in_ok-value.ensures
