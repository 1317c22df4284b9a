use Rattle.answer_analysis.proofs.ready.labels_of.Goals as goal

pub returns-clause-read : goal.returns-clause-read
returns-clause-read c = c.in_ok-have.ensures c.if-not-have.false

pub returns-clause-universe : goal.returns-clause-universe
returns-clause-universe c = c.has_universe.ensures c.if-not-has_universe.false
