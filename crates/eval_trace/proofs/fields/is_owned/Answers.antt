use Rattle.eval_trace.specs.Asked.{Members, Entries}
use Rattle.eval_trace.proofs.SetLaw.{begun_found}
use Rattle.eval_trace.proofs.fields.is_owned.Goals as goal

pub returns : goal.returns
returns c =
    begun_found (Members c.args.judge.now c.args.position c.args.owner) (Entries c.args.judge.now c.args.position c.args.place) c.relation_at-atoms.result c.in_ok-set.set c.in_ok-begun.begun c.relation_at-atoms.ensures c.in_ok-set.ensures c.is_inside.result c.in_ok-begun.ensures c.is_inside.ensures
