use Rattle.std.proofs.Common.{[], take}
use Rattle.form_target.specs.Targets.{Adds, always_claims}
use Rattle.form_target.proofs.target.all_always.Given as goal

abbrev pub invariant-loop-formula : goal.invariant-loop-formula
invariant-loop-formula l = Adds l.model.bodies [] l.all (always_claims (take l.formula-index l.list))
