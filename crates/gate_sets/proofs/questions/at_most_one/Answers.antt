use Rattle.gate_sets.proofs.questions.at_most_one.Goals as goal

pub returns-clause-means : goal.returns-clause-means
returns-clause-means g c = c.lone.ensures.truth
