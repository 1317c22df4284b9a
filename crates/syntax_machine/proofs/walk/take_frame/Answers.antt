use Rattle.std.proofs.Common.{sym, ◌∙◌, arith}
use Rattle.syntax_machine.proofs.Walked.{frame_over, frame_on}
use Rattle.syntax_machine.proofs.walk.take_frame.Goals as goal

pub take_read-requires : goal.take_read-requires
take_read-requires c = omega (arith, c.requires, c.in_ok-take_shift.ensures.keeps.longer)

pub returns-in-None-clause-adds : goal.returns-in-None-clause-adds
returns-in-None-clause-adds c =
    frame_over c.args.token.now c.args.stacks.now c.args.tops.now c.take_shift.new.stacks c.take_shift.new.tops c.args.frame c.args.mark c.args.depth c.args.below c.in_ok-take_shift.ensures (sym c.completed.ensures ∙ c.in-None.is)

pub returns-in_ok-rest-in-Some-clause-adds : goal.returns-in_ok-rest-in-Some-clause-adds
returns-in_ok-rest-in-Some-clause-adds c =
    frame_on c.args.token.now c.args.stacks.now c.args.tops.now c.take_shift.new.stacks c.take_shift.new.tops c.take_read.new.stacks c.take_read.new.tops c.args.frame c.args.mark c.in-Some.mark c.in-Some.goal c.args.depth c.in-Some.depth c.args.below c.in_ok-rest-in-Some.rest c.requires c.in_ok-take_shift.ensures
    (sym c.completed.ensures ∙ c.in-Some.is) c.in_ok-rest-in-Some.ensures.adds
