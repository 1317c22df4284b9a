use Rattle.std.proofs.Common.{take}
use Rattle.syntax_tree.specs.Spelling.{kinds}
use Rattle.syntax_machine.proofs.Walked.{AreLeft}
use Rattle.syntax_machine.proofs.walk.death_from.Given as goal

abbrev pub invariant-loop-place : goal.invariant-loop-place
invariant-loop-place l = AreLeft (kinds (take l.place l.tokens)) l.start l.stacks l.tops
