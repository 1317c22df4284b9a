use Rattle.std.proofs.Common.{length}
use Rattle.form_kernel.proofs.variables.+lone_by_one.Given as goal

abbrev pub decreases-lone_by_one : goal.decreases-lone_by_one
decreases-lone_by_one l = length l.list.now
