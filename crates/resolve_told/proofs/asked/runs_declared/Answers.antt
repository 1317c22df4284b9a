use Rattle.std.proofs.Common.{subst}
use Rattle.core_tree.specs.Trees.{claim_of}
use Rattle.resolve_told.specs.Bodies.{parameters_of}
use Rattle.resolve_told.specs.Commands.{RunsWith}
use Rattle.resolve_told.proofs.asked.runs_declared.Goals as goal

pub returns-in_ok-is_right-in-Some : goal.returns-in_ok-is_right-in-Some
returns-in_ok-is_right-in-Some c = λ same.
    subst (λ at. RunsWith at c.args.body (parameters_of c.args.predicate.now.receiver c.args.predicate.now.parameters) (claim_of c.args.formula.now)) c.in-Some.ensures.standing (c.in_ok-is_right-in-Some.ensures same)
