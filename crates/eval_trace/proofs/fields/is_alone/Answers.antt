use Rattle.std.proofs.Common.{ap, length, arith}
use Rattle.eval_tree.proofs.FoundLemmas.{said_true, said_false}
use Rattle.eval_trace.proofs.FieldLaw.{alone_none, alone_same, alone_unlisted, alone_more, alone_fails, alone_all}
use Rattle.eval_trace.proofs.fields.is_alone.Goals as goal

pub loop-number-init : goal.loop-number-init
loop-number-init c =
    alone_none c.args.judge.now c.args.position c.args.place c.args.field.now

pub loop-number-preserved-then-number-place : goal.loop-number-preserved-then-number-place
loop-number-preserved-then-number-place c =
    alone_same c.args.judge.now c.args.position c.args.place c.args.field.now c.loop-number.number c.loop-number.invariant c.if-number-place.true

pub loop-number-preserved-then-not-listed : goal.loop-number-preserved-then-not-listed
loop-number-preserved-then-not-listed c =
    alone_unlisted c.args.judge.now c.args.position c.args.place c.args.field.now c.loop-number.number c.get-other.result.now (rw c.field_list-fields.ensures at c.get-other.ensures) c.loop-number.invariant (said_false c.are_listed-listed.result c.are_listed-listed.ensures c.if-not-listed.true)

pub returns-then-some : goal.returns-then-some
returns-then-some c =
    λ owner owned. alone_fails c.args.judge.now c.args.position c.args.place c.args.field.now c.loop-number.number c.get-other.result.now (rw c.field_list-fields.ensures at c.get-other.ensures) (said_true c.in_ok-some.some c.in_ok-some.ensures c.if-some.true) c.if-number-place.false (said_true c.are_listed-listed.result c.are_listed-listed.ensures c.if-not-listed.false) owner owned

pub loop-number-preserved : goal.loop-number-preserved
loop-number-preserved c =
    alone_more c.args.judge.now c.args.position c.args.place c.args.field.now c.loop-number.number c.get-other.result.now (rw c.field_list-fields.ensures at c.get-other.ensures) c.loop-number.invariant (said_false c.in_ok-some.some c.in_ok-some.ensures c.if-some.false)

pub returns : goal.returns
returns c =
    λ owner owned. alone_all c.args.judge.now c.args.position c.args.place c.args.field.now c.loop-number.number (omega (arith, ap length c.field_list-fields.ensures)) c.loop-number.invariant
