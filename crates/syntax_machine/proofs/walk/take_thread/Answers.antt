use Rattle.syntax_machine.proofs.Walked.{walk_starts, walk_goes_on, walk_falls, walk_ends}
use Rattle.syntax_machine.proofs.walk.take_thread.Goals as goal

pub items-init : goal.items-init
items-init c = walk_starts c.args.token.now c.args.stacks.now c.args.tops.now c.args.at c.requires

pub take_rest-requires : goal.take_rest-requires
take_rest-requires c = c.items.invariant.within

pub returns-in-None : goal.returns-in-None
returns-in-None c =
    walk_ends c.args.token.now c.args.stacks.now c.args.tops.now c.items.stacks c.items.tops c.take_rest.new.stacks c.take_rest.new.tops c.args.at c.items.rest c.in_ok-left.left c.in-None.is c.items.invariant c.in_ok-left.ensures.adds

pub items-preserved : goal.items-preserved
items-preserved c =
    walk_goes_on c.args.token.now c.args.stacks.now c.args.tops.now c.items.stacks c.items.tops c.take_rest.new.stacks c.take_rest.new.tops c.args.at c.items.rest c.in_ok-left.left c.in-Some.next c.in-Some.is c.items.invariant c.in_ok-left.ensures.adds c.in_ok-left.ensures.within

pub items-smaller : goal.items-smaller
items-smaller c = walk_falls c.items.rest c.in_ok-left.left c.in-Some.next c.in-Some.is c.in_ok-left.ensures.falls
