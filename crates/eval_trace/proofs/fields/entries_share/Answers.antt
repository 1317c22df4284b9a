use Rattle.eval_trace.specs.Asked.{Entries}
use Rattle.eval_trace.proofs.FieldLaw.{entries_shared}
use Rattle.eval_trace.proofs.fields.entries_share.Goals as goal

pub returns : goal.returns
returns c =
    entries_shared c.in_ok-set.set c.in_ok-others.others (Entries c.args.judge.now c.args.position c.args.place) (Entries c.args.judge.now c.args.position c.args.other) c.in_ok-set.ensures c.in_ok-others.ensures c.in_ok-some.some c.in_ok-some.ensures
