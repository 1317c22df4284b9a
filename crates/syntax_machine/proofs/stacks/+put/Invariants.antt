use Rattle.std.proofs.Common.{length}
use Rattle.syntax_machine.proofs.stacks.+put.Given as goal

abbrev pub decreases-put : goal.decreases-put
decreases-put l = length l.items.now
