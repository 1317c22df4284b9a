use Rattle.std.proofs.Common.{refl}
use Rattle.core_tree.specs.Trees.{claim_of}
use Rattle.bmc_walk.proofs.LevelLaws.{doubles_more}
use Rattle.bmc_walk.proofs.levels.without_doubles.Goals as goal

pub loop-turn-init : goal.loop-turn-init
loop-turn-init c = (0, refl)

pub loop-turn-preserved : goal.loop-turn-preserved
loop-turn-preserved c = doubles_more (claim_of c.args.formula.now) (claim_of c.loop-turn.inner.now) (claim_of c.in-Some.f.now) c.loop-turn.invariant c.in-Some.ensures

pub returns-in-None : goal.returns-in-None
returns-in-None c = c.loop-turn.invariant

pub returns : goal.returns
returns c = c.loop-turn.invariant
