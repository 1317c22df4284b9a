use Rattle.std.proofs.Common.{◌≡◌, arith}
use Rattle.sat_verdict.proofs.mode.check_lines.Goals as goal

pub returns-in-Over-clause-refuted : goal.returns-in-Over-clause-refuted
returns-in-Over-clause-refuted c = λ formula follows e.
    let sound = rw c.in-Over.is at (c.in_ok-verdict.ensures.sound formula (c.lines.invariant.follows formula follows)) in sound e

pub lines-preserved : goal.lines-preserved
lines-preserved c =
    let turn = rw c.in-On.is at c.in_ok-verdict.ensures.turn in
    let places = rw c.in-On.is at c.in_ok-verdict.ensures.places in
    record {
      verdict = λ verdict ends. c.lines.invariant.verdict verdict (turn verdict ends);
      follows = λ formula follows. rw c.in-On.is at (c.in_ok-verdict.ensures.sound formula (c.lines.invariant.follows formula follows));
      place = places.1;
      few = omega (arith, places.0, places.2);
    }
