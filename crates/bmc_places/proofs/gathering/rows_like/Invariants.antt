use Rattle.std.proofs.Common.{take}
use Rattle.bmc_places.specs.Gathered.{AreLike}
use Rattle.bmc_places.proofs.gathering.rows_like.Given as goal

abbrev pub invariant-loop-choice : goal.invariant-loop-choice
invariant-loop-choice l = AreLike (take l.choice-index l.choices) l.i l.j
