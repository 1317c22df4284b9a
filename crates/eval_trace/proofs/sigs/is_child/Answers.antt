use Rattle.std.proofs.Common.{rules, tests}
use Rattle.eval_trace.proofs.SigLaw.{is_extends}
use Rattle.eval_trace.proofs.sigs.is_child.Goals as goal

pub returns-in-Extends : goal.returns-in-Extends
returns-in-Extends c =
    is_extends c.args.sig.now.kind c.args.parent c.in-Extends.other c.in-Extends.is _ (search (rules, tests))
