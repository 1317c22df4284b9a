use Rattle.std.proofs.Common.{arith}
use Rattle.load_state.proofs.named.note_open.Goals as goal

pub returns-in_ok-note-in-Some : goal.returns-in_ok-note-in-Some
returns-in_ok-note-in-Some c = λ yes. record {
  f = c.in-Some.f.now;
  has = c.in-Some.ensures.0;
  same = c.in-Some.ensures.1;
  room = (omega (arith, c.if-opened-eq0.false), omega (arith, c.if-opened-gt64.false));
  noted = c.in_ok-note-in-Some.ensures.noted;
}
