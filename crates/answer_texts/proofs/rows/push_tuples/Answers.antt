use Rattle.std.proofs.Common.{arith}
use Rattle.answer_texts.proofs.TableRows.{rows_end, rows_next}
use Rattle.answer_texts.proofs.rows.push_tuples.Goals as goal

pub loop-tuple-preserved : goal.loop-tuple-preserved
loop-tuple-preserved c =
    rows_next c.args.atoms.now c.args.label.now c.args.state c.loop-tuple.tuple-index c.args.tuples.now c.tuple-item.result c.loop-tuple.number _ c.loop-tuple.table c.push_row.new.table _
    c.loop-tuple-test.true c.tuple-item.is c.in_ok-push_row.ensures c.in_ok-number.ensures.sum c.loop-tuple.invariant

pub returns : goal.returns
returns c =
    rows_end c.args.atoms.now c.args.label.now c.args.state c.loop-tuple.tuple-index c.args.tuples.now c.loop-tuple.number c.loop-tuple.table _ (omega (arith, c.loop-tuple-test.false)) c.loop-tuple.invariant
