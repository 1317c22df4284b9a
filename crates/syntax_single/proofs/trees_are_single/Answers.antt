use Rattle.syntax_single.proofs.Law.{single}
use Rattle.syntax_single.proofs.trees_are_single.Goals as goal

pub returns : goal.returns
returns c = single
