use Rattle.syntax_machine.specs.Stacks.{AreWithin}
use Rattle.syntax_machine.proofs.walk.left_behind.Given as goal

abbrev pub invariant-loop-token : goal.invariant-loop-token
invariant-loop-token l = AreWithin l.stacks l.tops
