use Rattle.std.proofs.Common.{ap, ◌∙◌}
use Rattle.form_measures.specs.Measured.{over_parts}
use Rattle.form_measures.proofs.forms.over_two.Goals as goal

pub returns : goal.returns
returns c = λ d. c.in_ok-whole.ensures d ∙ ap (over_parts c.args.measure) (c.in_ok-parts.ensures d)
