use Rattle.std.proofs.Common.{not, List, ap, ◌∙◌}
use Rattle.gate_matrix.specs.declared.entry.Entry.{Entry}
use Rattle.gate_matrix.specs.Questions.{more_than_one}
use Rattle.gate_matrix.proofs.QuestionLaw.{lone_means, through}
use Rattle.gate_matrix.proofs.questions.lone.Goals as goal

pub returns-clause-truth : goal.returns-clause-truth
returns-clause-truth g c =
    let value = g.G.Gates.node_value in
    let first = c.args.gates.now in
    let later = c.seen_of.new.gates in
    λ x. through _ _ _ (c.not.ensures.gives x ∙ ap not (c.in_ok-seen.ensures.ok.two.gives x ∙ ap (λ (es : List Entry). more_than_one (value first x) es) c.entries.ensures.all)) (lone_means (value first x) c.args.a.now c.entries.ensures.matrix)
