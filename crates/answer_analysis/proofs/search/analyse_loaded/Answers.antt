use Rattle.answer_analysis.proofs.search.analyse_loaded.Goals as goal

pub returns-clause-found : goal.returns-clause-found
returns-clause-found g c = (c.in_ok-prepared.prepared, c.in_ok-prepared.ensures.loaded, c.in_ok-prepared.ensures.prepared, c.in_ok-answer.ensures)
