use Rattle.resolve_laws.proofs.One.{values_one}
use Rattle.resolve_laws.proofs.values_are_one.Goals as goal

pub returns : goal.returns
returns c = values_one c.said_is_one.ensures c.roots_agree.ensures c.right_rows_have_links.ensures
