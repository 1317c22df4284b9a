use Rattle.std.proofs.Common.{take}
use Rattle.core_tuples.specs.Sets.{HasJust}
use Rattle.bound_uppers.specs.AtomSets.{InKinds}
use Rattle.bound_uppers.proofs.rows.row_set.Given as goal

abbrev pub invariant-loop-place : goal.invariant-loop-place
invariant-loop-place l = HasJust l.set l.place (InKinds l.sets (take l.place l.row))
