use Rattle.std.proofs.Common.{◌≡◌, map, take}
use Rattle.resolve_places.specs.Places.{fact_origin}
use Rattle.resolve_places.proofs.placed.fact_origins.Given as goal

abbrev pub invariant-loop-fact : goal.invariant-loop-fact
invariant-loop-fact l = l.all ≡ map fact_origin (take l.fact-index l.facts)
