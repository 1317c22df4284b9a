use Rattle.std.proofs.Common.{◌≡◌, ◌++◌, take}
use Rattle.std.specs.Prelude.{flat_map}
use Rattle.resolve_told_opens.specs.Told.{enum_places}
use Rattle.resolve_told_opens.proofs.places.add_enums.Given as goal

abbrev pub invariant-loop-paragraph : goal.invariant-loop-paragraph
invariant-loop-paragraph l = l.all.items ≡ l.initial.all.items ++ flat_map enum_places (take l.paragraph-index l.paragraphs)
