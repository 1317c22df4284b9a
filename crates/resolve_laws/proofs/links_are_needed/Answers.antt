use Rattle.resolve_laws.proofs.SaidNeeded.{needed}
use Rattle.resolve_laws.proofs.links_are_needed.Goals as goal

pub returns : goal.returns
returns c = needed
