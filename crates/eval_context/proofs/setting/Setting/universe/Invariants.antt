use Rattle.eval_sets.specs.SetOf.{IsSetOf}
use Rattle.eval_context.specs.Settings.{world}
use Rattle.eval_context.proofs.SetLaw.{Reaches}
use Rattle.eval_context.proofs.setting.Setting.universe.Given as goal

abbrev pub invariant-loop-sig : goal.invariant-loop-sig
invariant-loop-sig l = IsSetOf l.all (Reaches (world l.self) l.position l.sig)
