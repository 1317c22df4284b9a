use Rattle.eval_trace.proofs.FieldLaw.{values_found}
use Rattle.eval_trace.proofs.fields.values_at.Goals as goal

pub returns : goal.returns
returns c =
    values_found c.args.judge.now c.args.position c.args.place c.args.atom c.in_ok-found.found c.set_of-set.result.now c.in_ok-rest.rest c.in_ok-found.ensures c.set_of-set.ensures c.in_ok-rest.ensures
