use Rattle.core_tree.specs.Trees.{claim_of}
use Rattle.eval_trace.proofs.TruthLaw.{truth_is}
use Rattle.eval_trace.proofs.evaluate.judged.Goals as goal

pub returns : goal.returns
returns c =
    truth_is c.in_ok-judge.judge _ c.in_ok-judge.ensures c.in_ok-place.place c.args.position (claim_of c.args.formula.now) c.in_ok-place.ensures _ c.holds_in.result c.holds_in.ensures
