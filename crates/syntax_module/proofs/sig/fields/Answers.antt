use Rattle.std.proofs.Common.{rules}
use Rattle.syntax_module.proofs.Rules.{comma_some}
use Rattle.syntax_module.proofs.sig.fields.Goals as goal

pub returns-clause-comma : goal.returns-clause-comma
returns-clause-comma c = comma_some c.in_ok-found.found.0 c.in_ok-found.found.1 (search rules)
