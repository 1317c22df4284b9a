use Rattle.std.proofs.Common.{length}
use Rattle.form_kernel.proofs.variables.+rises.Given as goal

abbrev pub decreases-rises : goal.decreases-rises
decreases-rises l = length l.list.now
