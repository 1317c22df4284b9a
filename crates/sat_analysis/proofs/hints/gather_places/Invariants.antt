use Rattle.sat_analysis.specs.Hints.{IsPlaced}
use Rattle.sat_analysis.proofs.hints.gather_places.Given as goal

abbrev pub invariant-loop-number : goal.invariant-loop-number
invariant-loop-number l = IsPlaced l.trail l.literals l.start l.number l.fn.places.items l.places.items
