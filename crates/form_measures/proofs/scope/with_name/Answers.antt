use Rattle.std.proofs.Common.{ℕ, ap₂, ◌∙◌}
use Rattle.core_tree.specs.Past.{Depths, with_depth}
use Rattle.form_measures.specs.Weights.{weight_at}
use Rattle.form_measures.proofs.Uses.{kept_weight}
use Rattle.form_measures.proofs.scope.with_name.Goals as goal

pub returns : goal.returns
returns c = λ d.
    c.in_ok-enter.ensures d
    ∙ ap₂ (λ (e : Depths) (n : ℕ). with_depth e c.args.name n) (c.in_ok-all.ensures d) (c.in_ok-weight.ensures d ∙ kept_weight d c.args.weight.now (weight_at d c.nothing.result) (c.nothing.ensures d))
