use Rattle.sat_lemmas.specs.Kept.{is_marked}
use Rattle.sat_lemmas.proofs.Moving.{over, gone}
use Rattle.sat_lemmas.proofs.moved.take_last.Goals as goal

pub returns-in_ok-push-clause-kept : goal.returns-in_ok-push-clause-kept
returns-in_ok-push-clause-kept c =
    over (is_marked c.args.marks.now) c.len.result c.pop.new.self c.args.left.now c.args.moved.now c.push.new.self c.in-Some.line c.len.ensures c.if-marks-len.true c.in-Some.ensures.some c.in_ok-push.ensures

pub returns-else-marks-len-clause-kept : goal.returns-else-marks-len-clause-kept
returns-else-marks-len-clause-kept c =
    gone (is_marked c.args.marks.now) c.len.result c.pop.new.self c.args.left.now c.args.moved.now c.in-Some.line c.len.ensures c.if-marks-len.false c.in-Some.ensures.some
