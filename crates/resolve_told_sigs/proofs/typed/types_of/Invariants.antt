use Rattle.std.proofs.Common.{◌≡◌, Some, map, take}
use Rattle.resolve_told_sigs.specs.Told.{type_in}
use Rattle.resolve_told_sigs.proofs.typed.types_of.Given as goal

abbrev pub invariant-loop-meaning : goal.invariant-loop-meaning
invariant-loop-meaning l = map type_in (take l.meaning-index l.meanings) ≡ map Some l.all
