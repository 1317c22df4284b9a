use Rattle.eval_steps.specs.Judged.{set_in}
use Rattle.eval_trace.proofs.FieldLaw.{GatheredFront}
use Rattle.eval_trace.proofs.fields.values_differ.Given as goal

abbrev pub invariant-loop-number : goal.invariant-loop-number
invariant-loop-number l = GatheredFront l.judge l.position l.place l.atoms l.number (set_in l.all)
