use Rattle.std.proofs.Common.{length}
use Rattle.syntax_machine.proofs.template.+on_item.Given as goal

abbrev pub decreases-on_item : goal.decreases-on_item
decreases-on_item l = length l.threads.now
