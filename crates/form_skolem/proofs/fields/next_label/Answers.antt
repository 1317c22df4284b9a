use Rattle.std.proofs.Common.{arith}
use Rattle.form_skolem.proofs.Labels.{next_is, next_taken}
use Rattle.form_skolem.proofs.fields.next_label.Goals as goal

pub returns-then-not-is_taken : goal.returns-then-not-is_taken
returns-then-not-is_taken c = next_is c.args.sigs.now c.args.fields.now c.args.first.now c.in_ok-label.label c.text.result.now c.loop-number.number c.in_ok-label.ensures c.text.ensures c.if-not-is_taken.ensures c.requires (omega arith) c.loop-number.invariant

pub loop-number-preserved : goal.loop-number-preserved
loop-number-preserved c = next_taken c.args.sigs.now c.args.fields.now c.args.first.now c.in_ok-label.label c.text.result.now c.loop-number.number c.in_ok-label.ensures c.text.ensures c.if-not-is_taken.ensures c.loop-number.invariant
