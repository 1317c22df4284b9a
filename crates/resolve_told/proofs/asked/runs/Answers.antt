use Rattle.resolve_told.proofs.asked.runs.Goals as goal

pub returns-in_ok-is_right-in-Some : goal.returns-in_ok-is_right-in-Some
returns-in_ok-is_right-in-Some c = λ same. (c.in-Some.body, c.in-Some.is, c.in_ok-is_right-in-Some.ensures.named same, c.in_ok-is_right-in-Some.ensures.runs same)
