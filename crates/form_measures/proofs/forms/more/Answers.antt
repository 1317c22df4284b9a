use Rattle.std.proofs.Common.{◌∙◌}
use Rattle.form_measures.specs.Weights.{weight_at}
use Rattle.form_measures.proofs.Uses.{more_weight}
use Rattle.form_measures.proofs.forms.more.Goals as goal

pub returns : goal.returns
returns c = λ d. c.in_ok-raised.ensures d ∙ more_weight d c.args.weight.now (weight_at d c.nothing.result) (c.nothing.ensures d)
