use Rattle.std.proofs.Common.{◌∙◌, sym}
use Rattle.resolve_said.specs.Operators.{counts, turns}
use Rattle.resolve_said.proofs.opened.set_operand.Goals as goal

pub returns-else-not-is_count : goal.returns-else-not-is_count
returns-else-not-is_count c = rw c.in-Count.is (rw c.deref.ensures (counts (sym c.is_count.ensures ∙ c.if-not-is_count.false)))

pub returns-else-not-has_turn : goal.returns-else-not-has_turn
returns-else-not-has_turn c = rw c.in-Unary.is (rw c.deref-in-Unary.ensures (turns (c.has_turn.ensures c.if-not-has_turn.false)))
