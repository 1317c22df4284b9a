use Rattle.eval_tree.proofs.FoundLemmas.{not_said}
use Rattle.eval_tree.proofs.walk.Walk.temporal_pair.Goals as goal

pub returns-in-Until : goal.returns-in-Until
returns-in-Until g c =
    rw c.in-Until.is c.forward.ensures

pub returns-in_ok-forward-in-Releases : goal.returns-in_ok-forward-in-Releases
returns-in_ok-forward-in-Releases g c =
    rw c.in-Releases.is (not_said c.in_ok-forward-in-Releases.field-0 c.in_ok-forward-in-Releases.ensures)

pub returns-in-Since : goal.returns-in-Since
returns-in-Since g c =
    rw c.in-Since.is c.backward.ensures

pub returns-in_ok-backward-in-Triggered : goal.returns-in_ok-backward-in-Triggered
returns-in_ok-backward-in-Triggered g c =
    rw c.in-Triggered.is (not_said c.in_ok-backward-in-Triggered.field-0 c.in_ok-backward-in-Triggered.ensures)

pub returns-in-Then : goal.returns-in-Then
returns-in-Then g c =
    rw c.in-Then.is c.then_next.ensures
