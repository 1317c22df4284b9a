use Rattle.resolve_told.proofs.asked.asks_name.Goals as goal

pub returns-then-is_check : goal.returns-then-is_check
returns-then-is_check c = rw c.if-is_check.true c.in_ok-is_right.ensures

pub returns : goal.returns
returns c = rw c.if-is_check.false c.in_ok-is_right-2.ensures
