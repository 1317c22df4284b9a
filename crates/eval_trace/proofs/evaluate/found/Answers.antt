use Rattle.core_tree.specs.Trees.{term_of}
use Rattle.eval_trace.proofs.TruthLaw.{tuples_are}
use Rattle.eval_trace.proofs.evaluate.found.Goals as goal

pub returns : goal.returns
returns c =
    tuples_are c.in_ok-judge.judge _ c.in_ok-judge.ensures c.in_ok-place.place c.args.position (term_of c.args.expr.now) c.in_ok-place.ensures c.in_ok-set.set c.in_ok-set.ensures _ c.copy_of.result c.copy_of.ensures
