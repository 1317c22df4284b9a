use Rattle.std.proofs.Common.{◌∙◌}
use Rattle.syntax_machine.proofs.Walked.{renew_more}
use Rattle.syntax_machine.proofs.renew.renewed.Goals as goal

pub loop-place-preserved : goal.loop-place-preserved
loop-place-preserved c =
    renew_more c.args.stacks.now c.args.fresh.now c.loop-place.fresh c.add_over.new.stacks c.args.tops.now c.loop-place.next c.add_over.new.tops c.as_slice.result.now c.loop-place.place c.get.result.now c.requires c.get.ensures (c.as_slice.ensures ∙ c.in_ok-items.ensures) c.loop-place.invariant c.in_ok-add_over.ensures
