use Rattle.resolve_names.specs.Marks.{IsMarked}
use Rattle.resolve_told.specs.Commands.{IsAssertion}
use Rattle.resolve_told.proofs.Running.{if_some_of}
use Rattle.resolve_told.proofs.asked.first_assertion.Goals as goal

pub returns-in-Some-clause-marked : goal.returns-in-Some-clause-marked
returns-in-Some-clause-marked c = if_some_of (λ a. IsMarked c.args.marks.now c.loop-number.number) c.in_ok-found.found c.in-Some.claim c.in-Some.is c.in_ok-found.ensures.marked

pub returns-in-Some-clause-there : goal.returns-in-Some-clause-there
returns-in-Some-clause-there c =
    if_some_of (λ a. IsAssertion c.args.loaded.now.texts c.args.loaded.now.instances c.loop-number.number c.args.text.now a.now) c.in_ok-found.found c.in-Some.claim c.in-Some.is c.in_ok-found.ensures.there
