use Rattle.bmc_walk.proofs.LeafLaws.{sig_kept}
use Rattle.bmc_walk.proofs.leaves.sig_leaf.Goals as goal

pub returns : goal.returns
returns c = sig_kept c.args.ground.now c.in_ok-value.value.items c.args.sig c.in_ok-value.ensures.inside c.in_ok-value.ensures.kept
