use Rattle.std.proofs.Common.{◌≡◌, map, take}
use Rattle.bound_uppers.specs.Numbers.{HasPlaces, cells_in}
use Rattle.bound_uppers.proofs.numbering.cells.Given as goal

abbrev pub invariant-loop-bound : goal.invariant-loop-bound
invariant-loop-bound l = HasPlaces l.relations → l.list.items ≡ map (cells_in l.relations) (take l.bound-index l.relations)
