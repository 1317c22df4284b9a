use Rattle.syntax_single.proofs.PlacedModules.{one_tree}
use Rattle.syntax_single.proofs.tokens_have_one_tree.Goals as goal

pub returns : goal.returns
returns c = one_tree
