use Rattle.std.proofs.Common.{arith}
use Rattle.sat_trail.proofs.Detaching.{unwatch_none, unwatch_more, unwatch_all}
use Rattle.sat_trail.proofs.detach.unwatch.Goals as goal

pub loop-clause-init : goal.loop-clause-init
loop-clause-init c = unwatch_none _ _

pub unwatch_one-requires : goal.unwatch_one-requires
unwatch_one-requires c = omega (arith, c.requires, c.loop-clause.invariant.size)

pub loop-clause-preserved : goal.loop-clause-preserved
loop-clause-preserved c =
    unwatch_more _ _ _ _ c.loop-clause.clause (omega (arith, c.requires)) c.loop-clause.invariant c.unwatch_one.ensures.marked c.unwatch_one.ensures.unmarked

pub returns : goal.returns
returns c = unwatch_all _ _ _ c.loop-clause.clause (omega (arith, c.requires)) c.loop-clause.invariant
