use Rattle.syntax_single.proofs.Law.{bounds_single}
use Rattle.syntax_single.proofs.bounds_are_single.Goals as goal

pub returns : goal.returns
returns c = bounds_single
