use Rattle.std.proofs.Common.{ℕ, max, ap, ◌∙◌}
use Rattle.form_measures.specs.Measured.{over_parts}
use Rattle.form_measures.specs.Weights.{weight_at}
use Rattle.form_measures.proofs.forms.over_three.Goals as goal

pub returns : goal.returns
returns c = λ d. c.in_ok-whole.ensures d ∙ ap (λ (n : ℕ). over_parts c.args.measure (max n (weight_at d c.args.third))) (c.in_ok-parts.ensures d)
