use Rattle.resolve_said.proofs.Taken.{bare_case}
use Rattle.resolve_said.proofs.names.is_body.Goals as goal

pub returns-else-not-is_bare : goal.returns-else-not-is_bare
returns-else-not-is_bare c = λ h. let bare = c.is_bare.ensures c.if-not-is_bare.false in rw c.in-Call.is (bare_case c.args.model.now.bodies c.in-Call.found c.args.body bare.0 c.in-Call.arguments.now bare.1 (c.waits.ensures h))
