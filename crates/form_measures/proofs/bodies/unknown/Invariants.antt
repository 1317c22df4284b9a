use Rattle.form_measures.specs.Weights.{AreUnknown}
use Rattle.form_measures.proofs.bodies.unknown.Given as goal

abbrev pub invariant-loop-body : goal.invariant-loop-body
invariant-loop-body l = AreUnknown l.summaries.items
