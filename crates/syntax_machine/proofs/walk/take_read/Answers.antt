use Rattle.std.proofs.Common.{Some}
use Rattle.syntax_machine.specs.Machine.{each, extend}
use Rattle.syntax_machine.specs.Stacks.{stack_at}
use Rattle.syntax_machine.proofs.Shared.{each_same}
use Rattle.syntax_machine.proofs.Walked.{rest_added}
use Rattle.syntax_machine.proofs.walk.take_read.Goals as goal

pub returns-clause-adds : goal.returns-clause-adds
returns-clause-adds c =
    let old = c.args.stacks.now in
    let before = c.args.tops.now in
    let longer = extend c.args.token.now c.args.goal c.args.mark c.args.depth in
    rest_added c.args.token.now old before c.each.new.stacks c.each.new.tops (each longer (stack_at old c.args.below)) (Some (c.args.mark, c.args.depth)) c.args.below c.requires
    (each_same old before c.each.new.stacks c.each.new.tops c.in_ok-longer.longer longer (stack_at old c.args.below) c.in_ok-longer.ensures c.in_ok-each.ensures)
