use Rattle.std.proofs.Common.{map, subst}
use Rattle.resolve_told.specs.Commands.{IsCommand, root_commands}
use Rattle.resolve_told.specs.CommandViews.{command_of}
use Rattle.resolve_told.specs.Lists.{OneByOne}
use Rattle.resolve_told.proofs.commands.are_commands_told.Goals as goal

pub returns : goal.returns
returns c = λ same.
    subst (λ cs. OneByOne (λ n w d. IsCommand c.args.loaded.now.texts c.args.loaded.now.instances c.args.names.now.scopes c.args.model.now c.args.readings.now w d) (root_commands c.args.loaded.now.texts c.args.loaded.now.instances) cs) c.as_slice-commands.ensures
    (subst (λ ws. OneByOne (λ n w d. IsCommand c.args.loaded.now.texts c.args.loaded.now.instances c.args.names.now.scopes c.args.model.now c.args.readings.now w d) ws c.as_slice-commands.result.now) c.in_ok-written.ensures
    (subst (λ all. OneByOne (λ n w d. IsCommand c.args.loaded.now.texts c.args.loaded.now.instances c.args.names.now.scopes c.args.model.now c.args.readings.now w d) (map command_of all) c.as_slice-commands.result.now) c.as_slice-2.ensures.value (c.in_ok-are_right.ensures same)))
