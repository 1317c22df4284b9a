use Rattle.syntax_machine.proofs.Law.{follow}
use Rattle.syntax_machine.proofs.right_trees_are_followed.Goals as goal

pub returns : goal.returns
returns c = follow
