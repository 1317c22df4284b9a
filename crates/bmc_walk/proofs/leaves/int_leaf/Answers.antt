use Rattle.bmc_walk.proofs.LeafLaws.{int_kept}
use Rattle.bmc_walk.proofs.leaves.int_leaf.Goals as goal

pub returns : goal.returns
returns c = int_kept c.args.ground.now c.in_ok-value.value.items c.in_ok-number.number c.in_ok-number.ensures c.in_ok-value.ensures
