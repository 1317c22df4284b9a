use Rattle.answer_laws.specs.Form.{FitsRelation}
use Rattle.answer_checks.proofs.Lists.{all_more, all_whole}
use Rattle.answer_checks.proofs.lassos.fit_relations.Goals as goal

pub loop-relation-preserved : goal.loop-relation-preserved
loop-relation-preserved c = all_more (FitsRelation c.args.labels.now c.args.state.now) c.args.relations.now c.loop-relation.relation-index c.relation-item.result c.loop-relation-test.true c.relation-item.is c.loop-relation.invariant (c.fits_relation.ensures c.if-not-fits_relation.false)

pub returns : goal.returns
returns c = λ t. all_whole (FitsRelation c.args.labels.now c.args.state.now) c.args.relations.now c.loop-relation.relation-index c.loop-relation-test.false c.loop-relation.invariant
