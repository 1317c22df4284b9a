use Rattle.std.proofs.Common.{[], take}
use Rattle.syntax_machine.specs.Stacks.{threads_at, Adds}
use Rattle.syntax_machine.proofs.renew.renewed.Given as goal

abbrev pub invariant-loop-place : goal.invariant-loop-place
invariant-loop-place l = Adds l.fn.fresh [] l.fresh l.next (threads_at l.stacks (take l.place l.tops))
