use Rattle.std.proofs.Common.{refl}
use Rattle.form_measures.proofs.forms.over_let.Goals as goal

pub returns-in-Past : goal.returns-in-Past
returns-in-Past c = λ d. rw c.in-Past.is refl

pub returns-in_ok-whole-in-Depth : goal.returns-in_ok-whole-in-Depth
returns-in_ok-whole-in-Depth c = λ d. rw c.in-Depth.is (c.in_ok-whole-in-Depth.ensures d)
