use Rattle.std.proofs.Common.{List, All, subst}
use Rattle.answer_trace.specs.declared.label.RelationLabel.{RelationLabel}
use Rattle.answer_checks.specs.Parts.{IsLabel, HavePlaces}
use Rattle.answer_checks.proofs.Whole.{lassos_by}
use Rattle.answer_checks.proofs.labels.have_lassos.Goals as goal

pub returns : goal.returns
returns c = λ t.
    let labels = c.args.labels.now in
    let right = subst (λ (l : List RelationLabel). All (IsLabel labels) l) c.as_slice-relations.ensures (c.are_labels.ensures c.if-not-are_labels.false) in
    let placed = subst HavePlaces c.as_slice-relations.ensures (c.in_ok-placed.ensures t) in
    lassos_by labels (c.are_texts.ensures c.if-not-are_texts.false) right (c.in_ok-apart.ensures c.if-not-apart.false) placed
