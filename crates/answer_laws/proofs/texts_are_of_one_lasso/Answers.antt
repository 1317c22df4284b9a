use Rattle.answer_laws.proofs.texts_are_of_one_lasso.Goals as goal
use Rattle.answer_laws.proofs.Lassos.{one_lasso}

pub returns : goal.returns
returns c = one_lasso
