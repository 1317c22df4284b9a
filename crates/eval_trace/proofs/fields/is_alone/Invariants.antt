use Rattle.eval_trace.proofs.FieldLaw.{AloneBefore}
use Rattle.eval_trace.proofs.fields.is_alone.Given as goal

abbrev pub invariant-loop-number : goal.invariant-loop-number
invariant-loop-number l = AloneBefore l.judge l.position l.place l.field l.number
