use Rattle.std.proofs.Common.{sym}
use Rattle.resolve_said.specs.Operators.{pairs}
use Rattle.resolve_said.proofs.opened.arrow_operands.Goals as goal

pub returns-else-not-has_arrow_word-2 : goal.returns-else-not-has_arrow_word-2
returns-else-not-has_arrow_word-2 c = rw c.in-Product.is (rw c.deref.ensures (rw c.deref-in-Arrow.ensures (rw (sym (c.has_arrow_word.ensures c.if-not-has_arrow_word.false)) (rw (sym (c.has_arrow_word-in-Arrow.ensures c.if-not-has_arrow_word-2.false)) (pairs c.in-Arrow.is)))))
