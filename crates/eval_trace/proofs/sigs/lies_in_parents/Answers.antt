use Rattle.eval_trace.proofs.SetLaw.{inside_found}
use Rattle.eval_trace.specs.Asked.{Members, InParents}
use Rattle.eval_trace.proofs.sigs.lies_in_parents.Goals as goal

pub returns : goal.returns
returns c =
    inside_found c.relation_at-set.result c.in_ok-above.above (Members c.args.judge.now c.args.position c.args.place) (InParents c.args.judge.now c.args.position c.args.parents.now) c.relation_at-set.ensures c.in_ok-above.ensures c.is_inside-lies.result c.is_inside-lies.ensures
