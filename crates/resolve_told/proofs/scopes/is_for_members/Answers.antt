use Rattle.resolve_told.proofs.Named.{only_is}
use Rattle.resolve_told.proofs.scopes.is_for_members.Goals as goal

pub returns : goal.returns
returns c = λ yes. only_is c.args.members.now c.only_of-only.result c.args.subject c.only_of-only.ensures.some c.only_of-only.ensures.none (c.is_only.ensures yes)
