use Rattle.resolve_told.proofs.asked.checks_alone.Goals as goal

pub returns-in_ok-is_right-in-None : goal.returns-in_ok-is_right-in-None
returns-in_ok-is_right-in-None c = λ same. (c.in-None.is, c.in_ok-is_right-in-None.ensures same)
