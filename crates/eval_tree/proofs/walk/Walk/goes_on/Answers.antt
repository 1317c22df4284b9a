use Rattle.eval_tree.proofs.FoundLemmas.{says_said}
use Rattle.eval_tree.proofs.walk.Walk.goes_on.Goals as goal

pub returns-in_ok-truth-in-Each : goal.returns-in_ok-truth-in-Each
returns-in_ok-truth-in-Each g c =
    rw c.in-Each.is (says_said c.args.sense c.in_ok-truth-in-Each.truth c.says.result c.in_ok-truth-in-Each.ensures c.says.ensures)
