use Rattle.std.proofs.Common.{◌∷◌, []}
use Rattle.eval_trace.proofs.declarations.rounds_of_bound.Goals as goal

pub returns-in-None : goal.returns-in-None
returns-in-None c =
    λ few. rw c.in-None.is tt

pub returns-in-Some : goal.returns-in-Some
returns-in-Some c =
    λ few. rw c.in-Some.is (λ a k. c.bound_rounds.ensures (record { name = 0; value = a } ∷ []) k c.in-Some.declared.bound.multiplicity few)
