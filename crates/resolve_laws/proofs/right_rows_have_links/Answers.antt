use Rattle.resolve_laws.proofs.LinkLaw.{right_rows}
use Rattle.resolve_laws.proofs.right_rows_have_links.Goals as goal

pub returns : goal.returns
returns c e right first stands = right_rows e right first stands
