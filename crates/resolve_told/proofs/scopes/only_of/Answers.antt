use Rattle.std.proofs.Common.{◌∙◌, sym}
use Rattle.resolve_told.proofs.Named.{no_member}
use Rattle.resolve_told.proofs.scopes.only_of.Goals as goal

pub returns-then-not-is_single-clause-none : goal.returns-then-not-is_single-clause-none
returns-then-not-is_single-clause-none c = λ s e. no_member c.args.members.now s (sym c.is_single.ensures ∙ c.if-not-is_single.true) e
