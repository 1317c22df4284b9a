use Rattle.std.proofs.Common.{arith}
use Rattle.sat_trail.proofs.Detaching.{clear_none, clear_more, clear_all}
use Rattle.sat_trail.proofs.detach.clear.Goals as goal

pub loop-clause-init : goal.loop-clause-init
loop-clause-init c = clear_none _ _ _

pub stays_attached-stays-requires : goal.stays_attached-stays-requires
stays_attached-stays-requires c = omega (arith, c.requires, c.args.attached.now.ok.0)

pub loop-clause-preserved : goal.loop-clause-preserved
loop-clause-preserved c =
    clear_more _ _ _ _ c.loop-clause.clause _ _ (omega (arith, c.args.attached.now.ok.0)) c.loop-clause.invariant c.index.ensures c.stays_attached-stays.ensures.kept c.stays_attached-stays.ensures.only

pub returns : goal.returns
returns c = clear_all _ _ _ _ c.loop-clause.clause (omega (arith, c.args.attached.now.ok.0)) c.loop-clause.invariant
