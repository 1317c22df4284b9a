use Rattle.std.proofs.Common.{◌≡◌, map, take}
use Rattle.resolve_told_opens.specs.Told.{path_place}
use Rattle.resolve_told_opens.proofs.places.path_places.Given as goal

abbrev pub invariant-loop-open : goal.invariant-loop-open
invariant-loop-open l = l.all.items ≡ map path_place (take l.open-index l.opens)
