use Rattle.std.proofs.Common.{◌≡◌, ◌++◌, map, take}
use Rattle.eval_steps.proofs.StepLaw.{longer}
use Rattle.eval_steps.proofs.rows.add_rows.Given as goal

abbrev pub invariant-loop-row : goal.invariant-loop-row
invariant-loop-row l = l.rows.items ≡ l.initial.rows.items ++ map (longer l.atom) (take l.row-index l.more)
