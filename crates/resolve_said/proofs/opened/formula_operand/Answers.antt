use Rattle.std.proofs.Common.{◌∙◌, sym}
use Rattle.resolve_said.specs.Operators.{negates, shifts, tests}
use Rattle.resolve_said.proofs.opened.formula_operand.Goals as goal

pub returns-else-not-is_not : goal.returns-else-not-is_not
returns-else-not-is_not c = rw c.in-Not.is (rw c.deref.ensures (negates (sym c.is_not.ensures ∙ c.if-not-is_not.false)))

pub returns-else-not-has_time : goal.returns-else-not-has_time
returns-else-not-has_time c = rw c.in-Temporal.is (rw c.deref-in-Temporal.ensures (shifts (c.has_time.ensures c.if-not-has_time.false)))

pub returns-else-not-has_test : goal.returns-else-not-has_test
returns-else-not-has_test c = rw c.in-Test.is (rw c.deref-in-Test.ensures (tests (c.has_test.ensures c.if-not-has_test.false)))
