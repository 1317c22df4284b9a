use Rattle.syntax_machine.specs.Machine.{shift}
use Rattle.syntax_machine.specs.Stacks.{stack_at}
use Rattle.syntax_machine.proofs.Shared.{each_same}
use Rattle.syntax_machine.proofs.walk.take_shift.Goals as goal

pub returns : goal.returns
returns c =
    let old = c.args.stacks.now in
    let next = shift c.args.token.now c.args.frame c.args.mark c.args.depth in
    each_same old c.args.tops.now c.each.new.stacks c.each.new.tops c.in_ok-next.next next (stack_at old c.args.below) c.in_ok-next.ensures c.in_ok-each.ensures
