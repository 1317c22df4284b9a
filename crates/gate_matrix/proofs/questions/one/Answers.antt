use Rattle.std.proofs.Common.{◌&&◌, not, List, ap, ◌∙◌}
use Rattle.std.specs.List.{list_any}
use Rattle.gate_matrix.specs.declared.entry.Entry.{Entry}
use Rattle.gate_matrix.specs.Questions.{HasSome, HasLone, HasOne, more_than_one}
use Rattle.gate_matrix.proofs.QuestionLaw.{some_means, lone_means, one_means, question_made, computed, node_belongs, through}
use Rattle.gate_matrix.proofs.questions.one.Goals as goal

pub returns-clause-belongs : goal.returns-clause-belongs
returns-clause-belongs g c = node_belongs c.and.result g.G.Gates.belongs g.G.Gates.node_value c.and.new.self _ c.and.ensures.ok

pub returns-clause-truth : goal.returns-clause-truth
returns-clause-truth g c =
    let value = g.G.Gates.node_value in
    let first = c.args.gates.now in
    let later = c.seen_of.new.gates in
    let last = c.and.new.self in
    let a = c.args.a.now in
    let i = c.entries.ensures.matrix in
    question_made c.and.result (g.G.Gates.belongs last) (value last) (λ x. value later x c.in_ok-seen.seen.one && value later x c.not-lone.result) (λ x. HasOne (value first x) a)
    (computed c.and.result g.G.Gates.belongs value last _ c.and.ensures.ok)
    (λ x. one_means (value later x c.in_ok-seen.seen.one) (value later x c.not-lone.result) (HasSome (value first x) a) (HasLone (value first x) a)
    (through _ _ _ (c.in_ok-seen.ensures.ok.one.gives x ∙ ap (λ (es : List Entry). list_any (λ e. value first x e.node) es) c.entries.ensures.all) (some_means (value first x) a i))
    (through _ _ _ (c.not-lone.ensures.gives x ∙ ap not (c.in_ok-seen.ensures.ok.two.gives x ∙ ap (λ (es : List Entry). more_than_one (value first x) es) c.entries.ensures.all)) (lone_means (value first x) a i)))
