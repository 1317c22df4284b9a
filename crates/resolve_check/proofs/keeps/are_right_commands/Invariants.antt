use Rattle.std.proofs.Common.{All, take}
use Rattle.resolve_check.specs.Kept.{IsCommand}
use Rattle.resolve_check.proofs.keeps.are_right_commands.Given as goal

abbrev pub invariant-loop-command : goal.invariant-loop-command
invariant-loop-command l = All (IsCommand l.model) (take l.command-index l.commands)
