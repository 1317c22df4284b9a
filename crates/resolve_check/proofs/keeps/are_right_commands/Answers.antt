use Rattle.resolve_check.specs.Kept.{IsCommand}
use Rattle.resolve_check.proofs.Owners.{all_more, all_whole}
use Rattle.resolve_check.proofs.keeps.are_right_commands.Goals as goal

pub loop-command-preserved : goal.loop-command-preserved
loop-command-preserved c = all_more (IsCommand c.args.model.now) c.args.commands.now c.loop-command.command-index c.command-item.result c.loop-command-test.true c.command-item.is c.loop-command.invariant (c.in_ok-is_right_command.ensures c.if-not-branch.false)

pub returns : goal.returns
returns c = λ t. all_whole (IsCommand c.args.model.now) c.args.commands.now c.loop-command.command-index c.loop-command-test.false c.loop-command.invariant
