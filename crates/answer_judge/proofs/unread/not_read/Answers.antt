use Rattle.std.proofs.Common.{subst}
use Rattle.answer_trace.specs.Faults.{Faults}
use Rattle.answer_judge.proofs.unread.not_read.Goals as goal

pub returns-in-BadTrace : goal.returns-in-BadTrace
returns-in-BadTrace c =
    let ready = c.args.ready.now in
    let faults = subst (Faults ready.labels c.args.trace.now) c.in-BadTrace.is c.requires.faults in
    c.named_lines_are_first.ensures ready.labels c.args.trace.now c.in-BadTrace.line c.requires.read faults
