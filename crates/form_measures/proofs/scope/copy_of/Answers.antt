use Rattle.std.proofs.Common.{◌∙◌}
use Rattle.form_measures.specs.Weights.{weight_at}
use Rattle.form_measures.proofs.Uses.{kept_weight}
use Rattle.form_measures.proofs.scope.copy_of.Goals as goal

pub returns-clause-weight : goal.returns-clause-weight
returns-clause-weight c = λ d. c.in_ok-weight.ensures d ∙ kept_weight d c.args.other.now.weight (weight_at d c.nothing.result) (c.nothing.ensures d)
