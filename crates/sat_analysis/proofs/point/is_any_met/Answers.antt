use Rattle.std.proofs.Common.{arith}
use Rattle.sat_analysis.proofs.Taking.{none_more}
use Rattle.sat_analysis.proofs.point.is_any_met.Goals as goal

pub down-preserved : goal.down-preserved
down-preserved c = record {
  within = omega (arith, c.down.invariant.within);
  none = none_more c.args.literals.now c.args.noted.now.literals c.down.place c.args.to c.is_met.result (omega (arith, c.down-test.true)) c.is_met.ensures c.if-is_met.false c.down.invariant.none;
}

pub returns-clause-none : goal.returns-clause-none
returns-clause-none c = λ e j a b m. c.down.invariant.none j (omega (arith, a, c.down-test.false)) b m
