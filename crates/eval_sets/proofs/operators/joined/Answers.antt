use Rattle.std.proofs.Common.{◌≡◌, length, arith}
use Rattle.eval_sets.proofs.OperatorLaw.{joined_left, joined_right}
use Rattle.eval_sets.proofs.operators.joined.Goals as goal

pub returns-then-len-eq0 : goal.returns-then-len-eq0
returns-then-len-eq0 c =
    let empty : length c.args.a.now.tuples ≡ 0 = omega arith in
    joined_left c.empty_of.result c.args.a.now c.args.b.now empty c.empty_of.ensures

pub returns-then-len-eq0-2 : goal.returns-then-len-eq0-2
returns-then-len-eq0-2 c =
    let empty : length c.args.b.now.tuples ≡ 0 = omega arith in
    joined_right c.empty_of-then-len-eq0-2.result c.args.a.now c.args.b.now empty c.empty_of-then-len-eq0-2.ensures
