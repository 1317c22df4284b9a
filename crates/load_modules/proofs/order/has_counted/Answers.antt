use Rattle.std.proofs.Common.{sym, ◌∙◌, arith}
use Rattle.load_modules.specs.Numbered.{labels_before}
use Rattle.load_modules.proofs.Walking.{counted_label, taken_next}
use Rattle.load_modules.proofs.order.has_counted.Goals as goal

pub returns-in-None : goal.returns-in-None
returns-in-None c = λ same.
    counted_label (labels_before c.args.instances.now c.args.number) c.args.way.now c.args.other c.loop-count.count c.text.result.now c.args.label.now c.requires.taken (omega arith) c.loop-count.invariant
    (c.text.ensures ∙ c.in_ok-next.ensures) c.in-None.ensures.none (c.text.ensures ∙ (sym c.text-in-None.ensures ∙ c.is_same.ensures.yes same))

pub loop-count-preserved : goal.loop-count-preserved
loop-count-preserved c =
    taken_next (labels_before c.args.instances.now c.args.number) c.args.way.now c.loop-count.count c.in-Some.field-0 c.text.result.now c.loop-count.invariant (c.text.ensures ∙ c.in_ok-next.ensures) c.in-Some.ensures.some
