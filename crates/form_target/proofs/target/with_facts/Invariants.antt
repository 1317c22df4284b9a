use Rattle.std.proofs.Common.{take}
use Rattle.form_target.specs.Targets.{Adds, fact_claims}
use Rattle.form_target.proofs.target.with_facts.Given as goal

abbrev pub invariant-loop-fact : goal.invariant-loop-fact
invariant-loop-fact l = Adds l.model.bodies l.fn.before l.formulas (fact_claims (take l.fact-index l.facts))
