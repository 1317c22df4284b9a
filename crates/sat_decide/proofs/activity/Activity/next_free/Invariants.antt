use Rattle.sat_decide.proofs.activity.Activity.next_free.Given as goal

abbrev pub decreases-waiting : goal.decreases-waiting
decreases-waiting l = l.self.heap.len
