use Rattle.eval_sets.specs.SetOf.{IsSetOf}
use Rattle.eval_context.specs.Settings.{world}
use Rattle.eval_context.proofs.SetLaw.{Counts}
use Rattle.eval_context.proofs.setting.Setting.integers.Given as goal

abbrev pub invariant-loop-place : goal.invariant-loop-place
invariant-loop-place l = IsSetOf l.all (Counts (world l.self) l.place)
