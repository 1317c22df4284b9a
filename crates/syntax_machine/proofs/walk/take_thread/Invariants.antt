use Rattle.syntax_machine.proofs.Walked.{IsWalking}
use Rattle.syntax_machine.proofs.walk.take_thread.Given as goal

abbrev pub invariant-items : goal.invariant-items
invariant-items l = IsWalking l.token l.fn.stacks l.fn.tops l.stacks l.tops l.at l.rest

abbrev pub decreases-items : goal.decreases-items
decreases-items l = l.rest.at
