use Rattle.std.proofs.Common.{◌≡◌, List, length, ap, sym, subst, ◌∙◌, All, rules}
use Rattle.answer_trace.specs.declared.label.RelationLabel.{RelationLabel}
use Rattle.answer_trace.specs.Made.{IsRelationOf, relation_labels_of}
use Rattle.answer_trace.proofs.CountLaws.{labels_count}
use Rattle.answer_trace.proofs.Labelled.{labels_are}
use Rattle.answer_trace.proofs.make.make_labels.Goals as goal

pub returns-clause-count : goal.returns-clause-count
returns-clause-count c =
    let same : c.push_owned.new.relations ≡ relation_labels_of c.args.model.now c.args.scopes.now = search rules in
    ap (λ (ls : List RelationLabel). length ls) same ∙ labels_count c.args.model.now c.args.scopes.now

pub returns-clause-relations : goal.returns-clause-relations
returns-clause-relations c =
    let same : c.push_owned.new.relations ≡ relation_labels_of c.args.model.now c.args.scopes.now = search rules in
    subst (λ (ls : List RelationLabel). All (IsRelationOf c.args.model.now) ls) (sym same) (labels_are c.args.model.now c.args.scopes.now)
