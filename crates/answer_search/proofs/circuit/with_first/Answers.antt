use Rattle.answer_search.proofs.FirstLaw.{first_more}
use Rattle.answer_search.proofs.circuit.with_first.Goals as goal

pub loop-place-preserved : goal.loop-place-preserved
loop-place-preserved c = first_more c.args.first c.node.result c.args.rest.now c.loop-place.nodes c.push-in-loop-place.new.self c.loop-place.place c.node.ensures c.loop-place.invariant c.in_ok-push-2.ensures.ok
