use Rattle.std.proofs.Common.{map, []}
use Rattle.resolve_told.specs.Commands.{commands_by}
use Rattle.resolve_told.specs.CommandViews.{command_of}
use Rattle.resolve_told.proofs.Walk.{flat_next}
use Rattle.resolve_told.proofs.texts.commands_in.Goals as goal

pub loop-paragraph-preserved : goal.loop-paragraph-preserved
loop-paragraph-preserved c =
    flat_next commands_by [] c.args.paragraphs.now c.loop-paragraph.paragraph-index c.paragraph-item.result (map command_of c.loop-paragraph.all.items) (map command_of c.add_command.new.all.items)
    c.loop-paragraph-test.true c.paragraph-item.is c.loop-paragraph.invariant c.in_ok-add_command.ensures
