use Rattle.form_measures.proofs.Lists.{unknown_start, unknown_more}
use Rattle.form_measures.proofs.bodies.unknown.Goals as goal

pub loop-body-preserved : goal.loop-body-preserved
loop-body-preserved c = unknown_more c.loop-body.summaries.items c.push.new.self.items c.in_ok-push.ensures.items c.loop-body.invariant

pub loop-body-init : goal.loop-body-init
loop-body-init c = unknown_start c.new-summaries.result.items c.new-summaries.ensures.items
