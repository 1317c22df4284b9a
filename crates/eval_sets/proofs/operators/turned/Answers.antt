use Rattle.std.proofs.Common.{◌≢◌, arith}
use Rattle.eval_sets.proofs.OperatorLaw.{turned_pairs, turned_none}
use Rattle.eval_sets.proofs.operators.turned.Goals as goal

pub returns-then-arity-eq2 : goal.returns-then-arity-eq2
returns-then-arity-eq2 c =
    turned_pairs c.in_ok-transpose.field-0 c.args.a.now c.in_ok-transpose.ensures

pub returns : goal.returns
returns c =
    let other : c.args.a.now.arity ≢ 2 = λ e. omega arith in
    turned_none c.empty_of.result c.args.a.now c.arity.ensures.set other c.empty_of.ensures
