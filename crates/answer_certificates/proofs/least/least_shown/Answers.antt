use Rattle.std.proofs.Common.{subst}
use Rattle.answer_certificates.specs.Certificate.{StandsBelow}
use Rattle.answer_certificates.proofs.least.least_shown.Goals as goal

pub returns-in_ok-text-in-None : goal.returns-in_ok-text-in-None
returns-in_ok-text-in-None c = rw c.in-None.is c.in_ok-text-in-None.ensures

pub returns-in_ok-text-in-Some : goal.returns-in_ok-text-in-Some
returns-in_ok-text-in-Some c = rw c.in-Some.is c.in_ok-text-in-Some.ensures

pub above_shown-requires-clause-refutes : goal.above_shown-requires-clause-refutes
above_shown-requires-clause-refutes c = (subst (StandsBelow c.args.ready.now.bounds.relations) c.in-Some.is c.requires).0

pub above_shown-requires-clause-laid : goal.above_shown-requires-clause-laid
above_shown-requires-clause-laid c = (subst (StandsBelow c.args.ready.now.bounds.relations) c.in-Some.is c.requires).1
