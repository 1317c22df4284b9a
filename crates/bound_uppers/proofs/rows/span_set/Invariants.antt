use Rattle.core_tuples.specs.Sets.{HasJust}
use Rattle.bound_uppers.proofs.Filling.{InFirst}
use Rattle.bound_uppers.proofs.rows.span_set.Given as goal

abbrev pub invariant-loop-place : goal.invariant-loop-place
invariant-loop-place l = HasJust l.set 1 (InFirst l.span.first l.place)
