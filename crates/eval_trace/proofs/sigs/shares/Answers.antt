use Rattle.core_tuples.specs.Sets.{In}
use Rattle.eval_steps.specs.Judged.{set_in}
use Rattle.eval_trace.proofs.SetLaw.{shared}
use Rattle.eval_trace.proofs.sigs.shares.Goals as goal

pub returns : goal.returns
returns c =
    shared c.in_ok-common.common (λ t. In t (set_in c.args.a.now)) (λ t. In t (set_in c.args.b.now)) c.in_ok-common.ensures c.has.result c.has.ensures
