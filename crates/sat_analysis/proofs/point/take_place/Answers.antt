use Rattle.std.proofs.Common.{◌≡◌, true, false, rules, ap, length, arith}
use Rattle.sat_analysis.proofs.Taking.{literals_in, met_there, skip_step}
use Rattle.sat_analysis.proofs.point.take_place.Goals as goal

pub is_met-requires-clause-literals : goal.is_met-requires-clause-literals
is_met-requires-clause-literals c = literals_in c.args.trail.now c.args.noted.now.variables c.args.literals.now c.requires.trail.0 c.requires.variables c.requires.trail.1

pub is_met-requires-clause-within : goal.is_met-requires-clause-within
is_met-requires-clause-within c = omega (arith, c.requires.within.1, ap length c.requires.trail.1)

pub returns-then-not-is_met-clause-back : goal.returns-then-not-is_met-clause-back
returns-then-not-is_met-clause-back c = λ clause h e.
    let no : c.is_met.result ≡ false = search rules in
    skip_step c.args.trail.now clause c.args.literals.now c.args.noted.now.literals c.args.places.now.items c.args.place c.is_met.result c.requires.trail.1 c.is_met.ensures no h

pub returns-then-is_alone-clause-point : goal.returns-then-is_alone-clause-point
returns-then-is_alone-clause-point c = λ e.
    let yes : c.is_met.result ≡ true = search rules in
    let alone = c.is_alone.ensures.alone c.if-is_alone.true in
    (alone.0, met_there c.args.trail.now c.args.literals.now c.args.noted.now.literals c.args.place c.requires.trail.1 (c.is_met.ensures.0 yes), alone.1)

pub resolve-requires-clause-met : goal.resolve-requires-clause-met
resolve-requires-clause-met c =
    let yes : c.is_met.result ≡ true = search rules in
    met_there c.args.trail.now c.args.literals.now c.args.noted.now.literals c.args.place c.requires.trail.1 (c.is_met.ensures.0 yes)

pub resolve-requires-clause-below : goal.resolve-requires-clause-below
resolve-requires-clause-below c = c.is_alone.ensures.other c.if-is_alone.false

pub returns-clause-back : goal.returns-clause-back
returns-clause-back c = λ clause h e. c.in_ok-resolve.ensures.back clause h
