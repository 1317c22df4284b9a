use Rattle.bmc_walk.proofs.arrows.asks.Goals as goal

pub returns-then-silent : goal.returns-then-silent
returns-then-silent c = λ no_question. (c.is_free-free.ensures c.if-not-free.false, c.asks_nothing-silent.ensures c.if-silent.true)
