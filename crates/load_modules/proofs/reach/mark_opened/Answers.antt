use Rattle.std.proofs.Common.{sym}
use Rattle.load_modules.specs.Reached.{opened}
use Rattle.load_modules.proofs.Reached.{marked_more}
use Rattle.load_modules.proofs.reach.mark_opened.Goals as goal

pub loop-opened-preserved : goal.loop-opened-preserved
loop-opened-preserved c =
    marked_more c.args.instances.now c.opened-item.result.instance c.loop-opened.marks.items _
    (opened c.args.number c.opened-item.result c.requires.reached (c.requires.own c.opened-item.result (c.loop-opened.opened-index, c.loop-opened-test.true, sym c.opened-item.is)))
    c.loop-opened.invariant c.mark.ensures
