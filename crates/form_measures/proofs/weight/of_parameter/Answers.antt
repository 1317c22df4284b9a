use Rattle.std.proofs.Common.{List, [], ◌∷◌, ◌++◌, refl, ap, ◌∙◌}
use Rattle.form_measures.specs.declared.weight.Use.{Use}
use Rattle.form_measures.proofs.Uses.{parameter_weight}
use Rattle.form_measures.proofs.weight.of_parameter.Goals as goal

pub returns : goal.returns
returns c = λ d.
    parameter_weight d (record { own = 0; uses = c.push.new.self }) c.args.parameter refl (c.in_ok-push.ensures.items ∙ ap (λ (us : List Use). us ++ record { parameter = c.args.parameter; depth = 0 } ∷ []) c.new-uses.ensures.items)
