use Rattle.std.proofs.Common.{ℕ, ◌<◌, sym, subst}
use Rattle.resolve_names.proofs.Path.{opened_none, opened_more}
use Rattle.resolve_names.proofs.follow.mark_opens.Goals as goal

pub loop-open-init : goal.loop-open-init
loop-open-init c = opened_none c.args.is_own c.args.alias.now c.args.marks.now.items

pub mark_step-requires : goal.mark_step-requires
mark_step-requires c =
    subst (λ (n : ℕ). c.open-item.result.instance < n) (sym c.loop-open.invariant.every)
    (c.requires c.open-item.result (c.loop-open.open-index, c.loop-open-test.true, sym c.open-item.is))

pub loop-open-preserved : goal.loop-open-preserved
loop-open-preserved c =
    opened_more c.args.is_own c.args.alias.now c.args.opens.now c.args.marks.now.items c.loop-open.marks.items c.mark_step.new.marks.items c.loop-open.open-index c.open-item.result
    c.loop-open-test.true c.open-item.is c.loop-open.invariant c.mark_step.ensures
