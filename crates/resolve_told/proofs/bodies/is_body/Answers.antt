use Rattle.resolve_told.proofs.bodies.is_body.Goals as goal

pub returns-in_ok-is_right-in-Pred : goal.returns-in_ok-is_right-in-Pred
returns-in_ok-is_right-in-Pred c = λ same. rw c.in-Pred.is (c.in_ok-is_right-in-Pred.ensures.said same, c.in_ok-is_right-in-Pred.ensures.read same)

pub returns-in_ok-is_right-in-Fun : goal.returns-in_ok-is_right-in-Fun
returns-in_ok-is_right-in-Fun c = λ same. rw c.in-Fun.is (c.in_ok-is_right-in-Fun.ensures.said same, c.in_ok-is_right-in-Fun.ensures.read same)
