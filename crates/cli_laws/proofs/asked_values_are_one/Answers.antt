use Rattle.cli_laws.proofs.Asked.{one_value}
use Rattle.cli_laws.proofs.asked_values_are_one.Goals as goal

pub returns : goal.returns
returns c = one_value c.tokens_have_one_tree.ensures c.values_are_one.ensures
