use Rattle.std.proofs.lemmas.List.{nil_from_length}
use Rattle.eval_trace.proofs.SetLaw.{parents_none, parents_more}
use Rattle.eval_trace.proofs.sigs.+columns_at.Goals as goal

pub returns-in-None : goal.returns-in-None
returns-in-None t c =
    parents_none c.args.judge.now c.args.position c.args.columns.now (nil_from_length _ c.in-None.ensures.cases) c.nothing.result c.nothing.ensures

pub returns-in_ok-others-in-Some : goal.returns-in_ok-others-in-Some
returns-in_ok-others-in-Some t c =
    parents_more c.args.judge.now c.args.position c.args.columns.now c.in-Some.first.now c.in-Some.rest.now c.in-Some.ensures.cases.0 c.in_ok-here-in-Some.here c.in_ok-others-in-Some.others c.in_ok-here-in-Some.ensures c.in_ok-others-in-Some.ensures _ c.combined.result c.combined.ensures
