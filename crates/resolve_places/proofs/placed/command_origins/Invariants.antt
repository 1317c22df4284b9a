use Rattle.std.proofs.Common.{◌≡◌, map, take}
use Rattle.resolve_places.specs.Places.{command_origin}
use Rattle.resolve_places.proofs.placed.command_origins.Given as goal

abbrev pub invariant-loop-command : goal.invariant-loop-command
invariant-loop-command l = l.all ≡ map command_origin (take l.command-index l.commands)
