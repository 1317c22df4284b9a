use Rattle.std.proofs.Common.{length}
use Rattle.form_kernel.proofs.variables.+one_by_one.Given as goal

abbrev pub decreases-one_by_one : goal.decreases-one_by_one
decreases-one_by_one l = length l.list.items
