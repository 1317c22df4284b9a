use Rattle.std.proofs.Common.{◌∷◌, []}
use Rattle.eval_trace.proofs.declarations.rounds_of_fact.Goals as goal

pub returns-in-None : goal.returns-in-None
returns-in-None c =
    λ few. rw c.in-None.is tt

pub returns-in-Some : goal.returns-in-Some
returns-in-Some c =
    λ few. rw c.in-Some.is (λ a. c.fact_rounds.ensures (record { name = 0; value = a } ∷ []) few)
