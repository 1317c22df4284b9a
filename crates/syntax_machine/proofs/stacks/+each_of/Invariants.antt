use Rattle.std.proofs.Common.{length}
use Rattle.syntax_machine.proofs.stacks.+each_of.Given as goal

abbrev pub decreases-each_of : goal.decreases-each_of
decreases-each_of l = length l.threads.now
