use Rattle.core_laws.proofs.Fields.{fields_lie}
use Rattle.core_laws.proofs.fields_lie_in_their_bounds.Goals as goal

pub returns : goal.returns
returns c = fields_lie
