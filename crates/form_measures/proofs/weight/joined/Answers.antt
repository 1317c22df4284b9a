use Rattle.std.proofs.Common.{max, List, refl, ap, ◌∙◌}
use Rattle.form_measures.specs.declared.weight.Use.{Use}
use Rattle.form_measures.specs.Measured.{raised}
use Rattle.form_measures.specs.Weights.{most_used}
use Rattle.form_measures.proofs.Uses.{joined_at}
use Rattle.form_measures.proofs.weight.joined.Goals as goal

pub returns : goal.returns
returns c = λ d.
    joined_at d c.args.first c.args.second.now (record { own = c.max.result; uses = c.add_uses.new.uses }) c.args.by c.max.result c.raised-deeper.result c.add_uses.new.uses.items c.raised-deeper.ensures c.max.ensures
    (c.in_ok-add_uses.ensures d ∙ ap (λ (us : List Use). max (most_used d c.args.first.uses.items) (raised c.args.by (most_used d us))) c.as_slice.ensures.value) refl refl
