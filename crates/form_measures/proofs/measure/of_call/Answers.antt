use Rattle.std.proofs.Common.{◌∙◌, arith}
use Rattle.form_measures.specs.Weights.{arguments_at}
use Rattle.form_measures.proofs.Lists.{call_known}
use Rattle.form_measures.proofs.measure.of_call.Goals as goal

pub returns-in_ok-weight-in-Some : goal.returns-in_ok-weight-in-Some
returns-in_ok-weight-in-Some c = λ all agrees d e counts none.
    c.in_ok-weight-in-Some.ensures d ∙ call_known all c.args.bodies.now c.args.body c.in-Some.summary.now c.in-Some.ensures agrees (arguments_at d c.args.arguments.now) e counts (λ p far. none p (omega (arith, far)))
