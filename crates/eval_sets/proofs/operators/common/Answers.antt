use Rattle.std.proofs.Common.{◌≢◌, arith}
use Rattle.eval_sets.proofs.OperatorLaw.{common_apart}
use Rattle.eval_sets.proofs.operators.common.Goals as goal

pub returns : goal.returns
returns c =
    let other : c.args.a.now.arity ≢ c.args.b.now.arity = λ e. omega arith in
    common_apart c.empty_of.result c.args.a.now c.args.b.now c.arity.ensures.set c.arity-2.ensures.set other c.empty_of.ensures
