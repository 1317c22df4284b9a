use Rattle.std.proofs.Common.{◌∙◌, ◌++◌, ◌∷◌, [], List, ℕ, ap}
use Rattle.bmc_walk.proofs.choices.+chosen_tuple.Goals as goal

pub returns-in_ok-push-in-Then : goal.returns-in_ok-push-in-Then
returns-in_ok-push-in-Then t c = rw c.in-Then.is (c.in_ok-push-in-Then.ensures.ok ∙ ap (λ (s : List ℕ). s ++ c.in-Then.atom ∷ []) c.in_ok-tuple-in-Then.ensures)
