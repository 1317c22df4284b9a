use Rattle.std.proofs.Common.{◌≡◌, map, take}
use Rattle.std.specs.Prelude.{flat_map}
use Rattle.resolve_told.specs.Commands.{commands_by}
use Rattle.resolve_told.specs.CommandViews.{command_of}
use Rattle.resolve_told.proofs.texts.commands_in.Given as goal

abbrev pub invariant-loop-paragraph : goal.invariant-loop-paragraph
invariant-loop-paragraph l = map command_of l.all.items ≡ flat_map commands_by (take l.paragraph-index l.paragraphs)
