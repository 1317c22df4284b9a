use Rattle.std.proofs.Common.{◌≡◌, map, take}
use Rattle.core_meaning.specs.Integers.{sum_of}
use Rattle.eval_steps.proofs.StepLaw.{value_of}
use Rattle.eval_steps.proofs.rows.sum_of_rows.Given as goal

abbrev pub invariant-loop-row : goal.invariant-loop-row
invariant-loop-row l = l.sum ≡ sum_of (map value_of (take l.row-index l.rows))
