use Rattle.eval_tree.proofs.FoundLemmas.{true_holds}
use Rattle.eval_trace.proofs.sigs.appended_holds.Goals as goal

pub returns-in-None : goal.returns-in-None
returns-in-None c =
    rw c.in-None.is (true_holds tt)

pub returns-in-Some : goal.returns-in-Some
returns-in-Some c =
    rw c.in-Some.is c.holds_for_each.ensures
