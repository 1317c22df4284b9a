use Rattle.bound_uppers.proofs.Sizes.{state_more}
use Rattle.bound_uppers.proofs.decoding.state_of.Goals as goal

pub loop-relation-preserved : goal.loop-relation-preserved
loop-relation-preserved c = λ has. state_more c.args.relations.now c.args.table.now c.args.assignment.now c.args.state c.loop-relation.relation c.first_of-first.result c.index-relations-relation.result c.in_ok-true_tuples.field-0 c.loop-relation.sets c.push.new.self has c.loop-relation-test.true c.index-relations-relation.is c.first_of-first.ensures c.in_ok-true_tuples.ensures (c.loop-relation.invariant has) c.in_ok-push.ensures.ok
