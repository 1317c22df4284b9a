use Rattle.bound_naming.proofs.Deciding.{naming_decided}
use Rattle.bound_naming.proofs.laws.naming_is_decided.Goals as goal

pub returns : goal.returns
returns c = naming_decided
