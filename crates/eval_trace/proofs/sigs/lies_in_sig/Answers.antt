use Rattle.eval_trace.proofs.SetLaw.{inside_found}
use Rattle.eval_trace.specs.Asked.{Members}
use Rattle.eval_trace.proofs.sigs.lies_in_sig.Goals as goal

pub returns : goal.returns
returns c =
    inside_found c.relation_at-set.result c.relation_at-above.result (Members c.args.judge.now c.args.position c.args.place) (Members c.args.judge.now c.args.position c.args.parent) c.relation_at-set.ensures c.relation_at-above.ensures c.is_inside.result c.is_inside.ensures
