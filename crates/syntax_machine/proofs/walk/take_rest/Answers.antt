use Rattle.std.proofs.Common.{◌∷◌, arith}
use Rattle.syntax_machine.specs.Stacks.{stack_at}
use Rattle.syntax_machine.specs.Threads.{from_thread}
use Rattle.syntax_machine.proofs.Walked.{rest_none, rest_some, rest_falls, rest_within}
use Rattle.syntax_machine.proofs.walk.take_rest.Goals as goal

pub take_item-requires : goal.take_item-requires
take_item-requires c = omega (arith, c.in-Some.ensures.falls, c.requires)

pub returns-in-None-clause-adds : goal.returns-in-None-clause-adds
returns-in-None-clause-adds c = rest_none c.args.token.now c.args.stacks.now c.args.tops.now c.args.rest c.in-None.ensures.none

pub returns-in_ok-next-in-Some-clause-adds : goal.returns-in_ok-next-in-Some-clause-adds
returns-in_ok-next-in-Some-clause-adds c =
    rest_some c.args.token.now c.args.stacks.now c.args.tops.now c.take_item.new.stacks c.take_item.new.tops c.args.rest c.in-Some.node.item c.in-Some.node.below c.in_ok-next-in-Some.next c.in-Some.ensures.some c.in_ok-next-in-Some.ensures.adds

pub returns-in_ok-next-in-Some-clause-falls : goal.returns-in_ok-next-in-Some-clause-falls
returns-in_ok-next-in-Some-clause-falls c = rest_falls c.in_ok-next-in-Some.next c.in-Some.node.below c.args.rest.at c.in-Some.ensures.falls c.in_ok-next-in-Some.ensures.below

pub returns-in_ok-next-in-Some-clause-within : goal.returns-in_ok-next-in-Some-clause-within
returns-in_ok-next-in-Some-clause-within c =
    rest_within c.args.token.now c.args.stacks.now c.args.tops.now c.take_item.new.stacks c.take_item.new.tops (from_thread c.args.token.now c.args.rest.read (c.in-Some.node.item ∷ stack_at c.args.stacks.now c.in-Some.node.below)) c.in_ok-next-in-Some.next c.in-Some.node.below c.args.rest.at c.requires c.in-Some.ensures.falls c.in_ok-next-in-Some.ensures.adds c.in_ok-next-in-Some.ensures.below
