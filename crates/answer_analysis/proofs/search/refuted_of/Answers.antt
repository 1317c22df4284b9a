use Rattle.answer_analysis.proofs.NoneLaw.{none_satisfies}
use Rattle.answer_analysis.proofs.search.refuted_of.Goals as goal

pub returns : goal.returns
returns c budget found says none =
    (found.0, found.1, λ number made. none_satisfies number c.args.prepared.now made none c.satisfying_lassos_are_candidates.ensures, says.0, found.2, c.in_ok-table.ensures says.1)
