use Rattle.std.proofs.Common.{List, ap}
use Rattle.std.specs.List.{list_any}
use Rattle.gate_matrix.specs.declared.entry.Entry.{Entry}
use Rattle.gate_matrix.specs.Questions.{HasSome}
use Rattle.gate_matrix.proofs.QuestionLaw.{some_means, question_made, computed, node_belongs, through}
use Rattle.gate_matrix.proofs.questions.some.Goals as goal

pub returns-clause-belongs : goal.returns-clause-belongs
returns-clause-belongs g c = node_belongs c.any_node.result g.G.Gates.belongs g.G.Gates.node_value c.any_node.new.gates _ c.any_node.ensures.ok

pub returns-clause-truth : goal.returns-clause-truth
returns-clause-truth g c =
    let value = g.G.Gates.node_value in
    let first = c.args.gates.now in
    let later = c.any_node.new.gates in
    question_made c.any_node.result (g.G.Gates.belongs later) (value later) (λ x. list_any (λ e. value first x e.node) c.entries.result.now) (λ x. HasSome (value first x) c.args.a.now)
    (computed c.any_node.result g.G.Gates.belongs value later _ c.any_node.ensures.ok)
    (λ x. through _ _ _ (ap (λ (es : List Entry). list_any (λ e. value first x e.node) es) c.entries.ensures.all) (some_means (value first x) c.args.a.now c.entries.ensures.matrix))
