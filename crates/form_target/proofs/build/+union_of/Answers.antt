use Rattle.std.proofs.Common.{arith}
use Rattle.form_target.proofs.Tails.{union_none, union_one, union_both, first_same}
use Rattle.form_target.proofs.build.+union_of.Goals as goal

pub returns-then-count-eq0 : goal.returns-then-count-eq0
returns-then-count-eq0 t c = union_none c.args.columns.now (omega (arith, c.if-count-eq0.true))

pub returns-then-count-eq1 : goal.returns-then-count-eq1
returns-then-count-eq1 t c = union_one c.args.columns.now _ _ (omega (arith, c.if-count-eq1.true)) (first_same c.args.columns.now _ _ (omega (arith, c.if-count-eq1.true))) c.column.ensures

pub returns : goal.returns
returns t c = union_both c.args.columns.now c.split_at.result.0.now c.split_at.result.1.now _ _ _ _ c.split_at.ensures.front c.split_at.ensures.back c.in_ok-first.ensures c.in_ok-second.ensures c.in_ok-combine.ensures
