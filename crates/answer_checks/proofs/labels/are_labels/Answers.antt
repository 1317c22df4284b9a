use Rattle.answer_checks.specs.Parts.{IsLabel}
use Rattle.answer_checks.proofs.Lists.{all_more, all_whole}
use Rattle.answer_checks.proofs.labels.are_labels.Goals as goal

pub loop-relation-preserved : goal.loop-relation-preserved
loop-relation-preserved c = all_more (IsLabel c.args.labels.now) c.args.relations.now c.loop-relation.relation-index c.relation-item.result c.loop-relation-test.true c.relation-item.is c.loop-relation.invariant (c.is_label.ensures c.if-not-is_label.false)

pub returns : goal.returns
returns c = λ t. all_whole (IsLabel c.args.labels.now) c.args.relations.now c.loop-relation.relation-index c.loop-relation-test.false c.loop-relation.invariant
