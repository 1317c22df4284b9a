use Rattle.std.proofs.Common.{◌∙◌, ap, sym}
use Rattle.std.specs.Prelude.{flat_map}
use Rattle.resolve_told.specs.Commands.{commands_by}
use Rattle.resolve_told.proofs.Walk.{root_first}
use Rattle.resolve_told.proofs.texts.all_commands.Goals as goal

pub returns : goal.returns
returns c =
    c.in_ok-all.ensures ∙ (ap (flat_map commands_by) c.in_ok-paragraphs.ensures ∙
    sym (root_first c.args.loaded.now.texts c.args.loaded.now.instances c.get-root.result.now c.get-root.ensures))
