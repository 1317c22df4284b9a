use Rattle.std.proofs.Common.{take}
use Rattle.eval_steps.proofs.StepLaw.{HasChosen}
use Rattle.eval_steps.proofs.rows.chosen_set.Given as goal

abbrev pub invariant-loop-row : goal.invariant-loop-row
invariant-loop-row l = HasChosen l.set (take l.row-index l.rows)
