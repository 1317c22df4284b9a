use Rattle.std.proofs.Common.{◌∙◌}
use Rattle.form_measures.specs.Weights.{weight_at}
use Rattle.form_measures.proofs.Uses.{both_weight}
use Rattle.form_measures.proofs.forms.both.Goals as goal

pub returns : goal.returns
returns c = λ d. c.in_ok-greater.ensures d ∙ both_weight d (weight_at d c.args.first) c.args.second.now
