use Rattle.resolve_laws.proofs.One.{formulas_one}
use Rattle.resolve_laws.proofs.formulas_are_one.Goals as goal

pub returns : goal.returns
returns c = formulas_one c.said_is_one.ensures c.formulas_agree.ensures c.right_rows_have_links.ensures
