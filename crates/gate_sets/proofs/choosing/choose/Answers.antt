use Rattle.std.proofs.Common.{◌∙◌}
use Rattle.gate_matrix.proofs.FoundLemmas.{truth_kept}
use Rattle.gate_sets.proofs.Masks.{chosen_means, and_both, or_both}
use Rattle.gate_sets.proofs.choosing.choose.Goals as goal

pub returns-clause-means : goal.returns-clause-means
returns-clause-means g c = λ x.
    let value = g.G.Gates.node_value in
    let belongs = g.G.Gates.belongs in
    let old = c.args.gates.now in
    let middle = c.masked.new.gates in
    let later = c.masked-2.new.gates in
    let other = c.not-other.result in
    chosen_means (value old x) (value c.union.new.gates x) (value old x c.args.node) c.args.a.now c.args.b.now c.in_ok-made.made (λ t.
    c.in_ok-made.ensures.truth x t
    ∙ or_both
    (truth_kept belongs value middle later c.masked-2.ensures.keeps c.in_ok-first.first c.in_ok-first.ensures.belongs x t ∙ c.in_ok-first.ensures.truth x t)
    (c.in_ok-second.ensures.truth x t
    ∙ and_both
    (c.masked.ensures.keeps.values other c.not-other.ensures.there x ∙ c.not-other.ensures.gives x)
    (truth_kept belongs value old middle c.masked.ensures.keeps c.args.b.now c.requires.b_belongs x t)))
