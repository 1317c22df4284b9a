use Rattle.bmc_places.proofs.rests.rest_numbers.Goals as goal

pub returns-then-at_start-clause-some : goal.returns-then-at_start-clause-some
returns-then-at_start-clause-some c = rw c.if-at_start.true c.in_ok-behind.ensures.some

pub returns-then-at_start-clause-none : goal.returns-then-at_start-clause-none
returns-then-at_start-clause-none c = rw c.if-at_start.true c.in_ok-behind.ensures.none

pub returns-clause-some : goal.returns-clause-some
returns-clause-some c = rw c.if-at_start.false c.in_ok-before.ensures.some

pub returns-clause-none : goal.returns-clause-none
returns-clause-none c = rw c.if-at_start.false c.in_ok-before.ensures.none
