use Rattle.answer_analysis.proofs.NoneLaw.{ruled_out}
use Rattle.answer_analysis.proofs.laws.ruled_out_means_none.Goals as goal

pub returns : goal.returns
returns c = ruled_out c.satisfying_lassos_are_candidates.ensures
