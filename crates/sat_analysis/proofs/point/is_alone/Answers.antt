use Rattle.std.proofs.Common.{arith}
use Rattle.sat_analysis.proofs.Taking.{literals_in, met_there, met_here}
use Rattle.sat_analysis.proofs.point.is_alone.Goals as goal

pub is_any_met-requires-clause-literals : goal.is_any_met-requires-clause-literals
is_any_met-requires-clause-literals c = literals_in c.args.trail.now c.args.noted.now.variables c.args.literals.now c.requires.trail.0 c.requires.variables c.requires.trail.1

pub returns-then-is_any_met-clause-other : goal.returns-then-is_any_met-clause-other
returns-then-is_any_met-clause-other c = λ e some.
    let j = c.is_any_met.ensures.some c.if-is_any_met.true in
    (j.0, omega (arith, j.1, c.base.ensures), j.2, met_there c.args.trail.now c.args.literals.now c.args.noted.now.literals j.0 c.requires.trail.1 j.3)

pub returns-clause-alone : goal.returns-clause-alone
returns-clause-alone c = λ e.
    (omega (arith, c.top.ensures, c.if-top-eq0.false), λ j a b m. c.is_any_met.ensures.none c.if-is_any_met.false j (omega (arith, a, c.base.ensures)) b (met_here c.args.trail.now c.args.literals.now c.args.noted.now.literals j c.requires.trail.1 m))
