use Rattle.std.proofs.Common.{[], take}
use Rattle.syntax_machine.specs.Threads.{from_each}
use Rattle.syntax_machine.specs.Stacks.{threads_at, Adds}
use Rattle.syntax_machine.proofs.walk.take_token.Given as goal

abbrev pub invariant-loop-place : goal.invariant-loop-place
invariant-loop-place l = Adds l.fn.stacks [] l.stacks l.next (from_each l.token (threads_at l.fn.stacks (take l.place l.tops)))
