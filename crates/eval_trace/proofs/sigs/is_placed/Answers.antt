use Rattle.eval_tree.proofs.FoundLemmas.{true_holds}
use Rattle.eval_trace.proofs.sigs.is_placed.Goals as goal

pub returns-in-Top : goal.returns-in-Top
returns-in-Top c =
    rw c.in-Top.is (true_holds tt)

pub returns-in-Extends : goal.returns-in-Extends
returns-in-Extends c =
    rw c.in-Extends.is c.lies_in_sig.ensures

pub returns-in-Subset : goal.returns-in-Subset
returns-in-Subset c =
    rw c.in-Subset.is (rw c.as_slice-list.ensures at c.lies_in_parents.ensures)
