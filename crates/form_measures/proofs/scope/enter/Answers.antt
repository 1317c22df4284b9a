use Rattle.std.proofs.Common.{ap, ◌∙◌}
use Rattle.form_measures.specs.Weights.{named}
use Rattle.form_measures.proofs.Names.{named_last}
use Rattle.form_measures.proofs.scope.enter.Goals as goal

pub returns : goal.returns
returns c = λ d. ap (named d) c.in_ok-push.ensures.items ∙ named_last d c.args.names.now.items (record { name = c.args.name; weight = c.args.weight })
