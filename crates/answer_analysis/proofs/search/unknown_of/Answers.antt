use Rattle.answer_analysis.proofs.search.unknown_of.Goals as goal

pub returns : goal.returns
returns c budget found says = let spends = found.1 in (spends.0, spends.1, spends.2, says.0, c.in_ok-table.ensures says.1)
