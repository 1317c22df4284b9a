use Rattle.resolve_laws.proofs.SaidLaw.{said_one}
use Rattle.resolve_laws.proofs.said_is_one.Goals as goal

pub returns : goal.returns
returns c = said_one
