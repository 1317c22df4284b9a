use Rattle.answer_certificates.proofs.Keeping.{IsKeptTo}
use Rattle.answer_certificates.proofs.part.kept_facts.Given as goal

abbrev pub invariant-loop-fact : goal.invariant-loop-fact
invariant-loop-fact l = IsKeptTo l.dropped l.fact l.kept
