use Rattle.answer_laws.proofs.texts_are_read.Goals as goal
use Rattle.answer_laws.proofs.Whole.{trace_again}
use Rattle.answer_laws.proofs.Fits.{atoms_are, lasso_has}

pub returns : goal.returns
returns c = λ labels lasso lines is. trace_again labels (atoms_are labels lines.form) lines.form.places lasso (lasso_has labels lines lasso is)
