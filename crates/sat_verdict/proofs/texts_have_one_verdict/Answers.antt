use Rattle.sat_verdict.proofs.Verdicts.{one_verdict}
use Rattle.sat_verdict.proofs.texts_have_one_verdict.Goals as goal

pub returns : goal.returns
returns c = one_verdict
