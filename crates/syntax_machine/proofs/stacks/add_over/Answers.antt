use Rattle.std.proofs.Common.{◌++◌}
use Rattle.syntax_machine.specs.Stacks.{stack_at}
use Rattle.syntax_machine.proofs.Shared.{adds_one}
use Rattle.syntax_machine.proofs.stacks.add_over.Goals as goal

pub returns : goal.returns
returns c = adds_one c.args.stacks.now c.put.new.stacks c.args.tops.now c.push.new.self (c.args.items.now ++ stack_at c.args.stacks.now c.args.below) c.in_ok-top.top c.in_ok-top.ensures c.in_ok-push.ensures.ok
