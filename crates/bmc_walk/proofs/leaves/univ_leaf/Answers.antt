use Rattle.bmc_walk.proofs.LeafLaws.{univ_kept}
use Rattle.bmc_walk.proofs.leaves.univ_leaf.Goals as goal

pub returns : goal.returns
returns c = univ_kept c.args.ground.now c.in_ok-value.value.items c.in_ok-number.number c.in_ok-number.ensures c.in_ok-value.ensures
