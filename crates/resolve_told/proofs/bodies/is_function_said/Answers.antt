use Rattle.std.proofs.Common.{subst}
use Rattle.resolve_said.specs.Said.{standing_of}
use Rattle.resolve_told.specs.Bodies.{IsFunction}
use Rattle.resolve_told.proofs.bodies.is_function_said.Goals as goal

pub returns-in_ok-is_said-in-Some : goal.returns-in_ok-is_said-in-Some
returns-in_ok-is_said-in-Some c = λ same.
    subst (λ at. IsFunction at c.args.told.now.model.now c.args.function.now c.args.body.now) c.in-Some.ensures.standing
    (subst (λ m. IsFunction (standing_of c.in-Some.site) m c.args.function.now c.args.body.now) c.in-Some.ensures.model (c.in_ok-is_said-in-Some.ensures same))
