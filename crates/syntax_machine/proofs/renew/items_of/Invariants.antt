use Rattle.std.proofs.Common.{◌≡◌, ◌++◌}
use Rattle.syntax_machine.specs.Stacks.{stack_at}
use Rattle.syntax_machine.proofs.renew.items_of.Given as goal

abbrev pub invariant-items : goal.invariant-items
invariant-items l = l.items ++ stack_at l.stacks l.left ≡ stack_at l.stacks l.at

abbrev pub decreases-items : goal.decreases-items
decreases-items l = l.left
