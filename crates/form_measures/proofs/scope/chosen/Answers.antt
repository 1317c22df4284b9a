use Rattle.std.proofs.Common.{Bool, if◌then◌else◌, sym, ap, ◌∙◌}
use Rattle.std.proofs.lemmas.Bool.{eq-eqb, ne_eqb}
use Rattle.form_measures.specs.Weights.{weight_at}
use Rattle.form_measures.proofs.Uses.{kept_weight}
use Rattle.form_measures.proofs.scope.chosen.Goals as goal

pub returns-then-name-known : goal.returns-then-name-known
returns-then-name-known c = λ d. sym (ap (λ (b : Bool). if b then weight_at d c.args.known.now.weight else weight_at d c.args.found) (ne_eqb c.args.name c.args.known.now.name c.if-name-known.true))

pub returns : goal.returns
returns c = λ d.
    c.in_ok-weight.ensures d ∙ kept_weight d c.args.known.now.weight (weight_at d c.nothing.result) (c.nothing.ensures d)
    ∙ sym (ap (λ (b : Bool). if b then weight_at d c.args.known.now.weight else weight_at d c.args.found) (eq-eqb c.args.name c.args.known.now.name c.if-name-known.false))
