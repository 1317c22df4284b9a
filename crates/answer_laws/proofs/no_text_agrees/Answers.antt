use Rattle.std.proofs.Common.{sym}
use Rattle.base_words.specs.Words.{parts}
use Rattle.answer_trace.specs.Text.{trace_text}
use Rattle.answer_laws.proofs.no_text_agrees.Goals as goal
use Rattle.answer_laws.proofs.Whole.{trace_again}
use Rattle.answer_laws.proofs.Fits.{atoms_are, lasso_has}
use Rattle.answer_laws.proofs.Local.{lines_stay}

pub returns : goal.returns
returns c = λ labels text line lasso lines is way agree.
    let left = lines_stay labels (parts text) (parts (trace_text labels lasso)) line way (sym agree) in
    let read = trace_again labels (atoms_are labels lines.form) lines.form.places lasso (lasso_has labels lines lasso is) in
    let whole = read.1 in
    cc
