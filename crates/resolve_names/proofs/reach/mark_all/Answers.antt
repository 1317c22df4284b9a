use Rattle.std.proofs.Common.{◌+◌, Bool, List, sym, subst, take}
use Rattle.resolve_names.specs.Marks.{IsBegun}
use Rattle.resolve_names.proofs.Walk.{begun_more}
use Rattle.resolve_names.proofs.reach.mark_all.Goals as goal

pub loop-open-preserved : goal.loop-open-preserved
loop-open-preserved c =
    subst (λ (ms : List Bool). IsBegun c.args.scopes.now c.args.from (take (c.loop-open.open-index + 1) c.args.opens.now) ms) (sym c.mark.ensures)
    (begun_more c.args.scopes.now c.args.from c.args.opens.now c.loop-open.marks.items c.loop-open.open-index c.open-item.result c.requires.linked
    (c.requires.own c.open-item.result (c.loop-open.open-index, c.loop-open-test.true, sym c.open-item.is))
    c.loop-open-test.true c.open-item.is c.loop-open.invariant)
