use Rattle.std.proofs.Common.{ap, ◌∙◌}
use Rattle.form_measures.specs.Measured.{past_binary}
use Rattle.form_measures.proofs.forms.over_binary.Goals as goal

pub returns-in_ok-whole-in-Past : goal.returns-in_ok-whole-in-Past
returns-in_ok-whole-in-Past c = λ d. rw c.in-Past.is (c.in_ok-whole-in-Past.ensures d ∙ ap (past_binary c.args.op) (c.in_ok-parts-in-Past.ensures d))

pub returns-in_ok-whole-in-Depth : goal.returns-in_ok-whole-in-Depth
returns-in_ok-whole-in-Depth c = λ d. rw c.in-Depth.is (c.in_ok-whole-in-Depth.ensures d)
