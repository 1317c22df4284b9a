use Rattle.std.proofs.Common.{map}
use Rattle.resolve_told.specs.Commands.{IsCommand}
use Rattle.resolve_told.specs.Lists.{EachBefore}
use Rattle.resolve_told.specs.CommandViews.{command_of}
use Rattle.resolve_told.proofs.commands.are_commands.Given as goal

abbrev pub invariant-loop-place : goal.invariant-loop-place
invariant-loop-place l = EachBefore (λ n w c. IsCommand l.sources.loaded.now.texts l.sources.loaded.now.instances l.sources.names.now.scopes l.sources.model.now l.sources.readings.now w c) l.place (map command_of l.written) l.commands
