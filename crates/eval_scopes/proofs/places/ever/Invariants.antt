use Rattle.eval_sets.specs.SetOf.{IsSetOf}
use Rattle.eval_context.specs.Settings.{world}
use Rattle.eval_scopes.proofs.PlaceLaw.{Until}
use Rattle.eval_scopes.proofs.places.ever.Given as goal

abbrev pub invariant-loop-position : goal.invariant-loop-position
invariant-loop-position l = IsSetOf l.all (Until (world l.setting) l.number l.position)
