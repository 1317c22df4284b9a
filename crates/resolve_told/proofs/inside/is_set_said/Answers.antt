use Rattle.resolve_told.proofs.inside.is_set_said.Goals as goal

pub returns-then-not-has_this : goal.returns-then-not-has_this
returns-then-not-has_this c = rw c.if-not-has_this.true c.in_ok-is_said.ensures

pub returns : goal.returns
returns c = rw c.if-not-has_this.false c.in_ok-is_said-2.ensures
