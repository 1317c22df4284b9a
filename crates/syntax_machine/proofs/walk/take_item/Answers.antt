use Rattle.std.proofs.Common.{Some, None, refl}
use Rattle.syntax_machine.specs.declared.thread.Item.TheVariants.{Need, Want, Have, Then, Part, May}
use Rattle.syntax_machine.specs.Machine.{each, begin, wanted}
use Rattle.syntax_machine.specs.Modules.{parts, options}
use Rattle.syntax_machine.specs.Stacks.{stack_at}
use Rattle.syntax_machine.proofs.Shared.{each_same, adds_none}
use Rattle.syntax_machine.proofs.Walked.{rest_added, item_is, item_matched}
use Rattle.syntax_machine.proofs.walk.take_item.Goals as goal

pub returns-in_ok-add-in-Token-clause-adds : goal.returns-in_ok-add-in-Token-clause-adds
returns-in_ok-add-in-Token-clause-adds c =
    item_matched c.args.token.now c.args.stacks.now c.args.tops.now c.add.new.stacks c.add.new.tops c.args.read c.args.item c.in-Token.kind c.matches.result c.args.below c.in-Token.is c.matches.ensures c.in_ok-add-in-Token.ensures

pub returns-in_ok-each-in-Need-clause-adds : goal.returns-in_ok-each-in-Need-clause-adds
returns-in_ok-each-in-Need-clause-adds c =
    let old = c.args.stacks.now in
    let before = c.args.tops.now in
    let k = stack_at old c.args.below in
    item_is c.args.token.now old before c.each.new.stacks c.each.new.tops c.args.read c.args.read c.args.item (Need c.in-Need.goal) c.args.below None refl c.in-Need.is
    (each_same old before c.each.new.stacks c.each.new.tops c.in_ok-next-in-Need.next (begin c.args.token.now c.in-Need.goal) k c.in_ok-next-in-Need.ensures c.in_ok-each-in-Need.ensures)

pub returns-in_ok-each-in-Want-clause-adds : goal.returns-in_ok-each-in-Want-clause-adds
returns-in_ok-each-in-Want-clause-adds c =
    let old = c.args.stacks.now in
    let before = c.args.tops.now in
    let k = stack_at old c.args.below in
    item_is c.args.token.now old before c.each-in-Want.new.stacks c.each-in-Want.new.tops c.args.read c.args.read c.args.item (Want c.in-Want.state) c.args.below None refl c.in-Want.is
    (each_same old before c.each-in-Want.new.stacks c.each-in-Want.new.tops c.in_ok-next-in-Want.next (wanted c.args.token.now c.in-Want.state) k c.in_ok-next-in-Want.ensures c.in_ok-each-in-Want.ensures)

pub returns-in_ok-rest-in-Have-clause-adds : goal.returns-in_ok-rest-in-Have-clause-adds
returns-in_ok-rest-in-Have-clause-adds c =
    item_is c.args.token.now c.args.stacks.now c.args.tops.now c.take_read.new.stacks c.take_read.new.tops c.args.read c.args.read c.args.item (Have c.in-Have.goal c.in-Have.mark c.in-Have.depth) c.args.below (Some c.in_ok-rest-in-Have.rest) refl c.in-Have.is c.in_ok-rest-in-Have.ensures.adds

pub returns-in-None-clause-adds : goal.returns-in-None-clause-adds
returns-in-None-clause-adds c =
    item_is c.args.token.now c.args.stacks.now c.args.tops.now c.args.stacks.now c.args.tops.now c.args.read None c.args.item (Then c.in-Then.frame) c.args.below None c.in-None.is c.in-Then.is (adds_none c.args.stacks.now c.args.tops.now)

pub returns-in_ok-rest-in-Some-clause-adds : goal.returns-in_ok-rest-in-Some-clause-adds
returns-in_ok-rest-in-Some-clause-adds c =
    item_is c.args.token.now c.args.stacks.now c.args.tops.now c.take_frame.new.stacks c.take_frame.new.tops c.args.read (Some (c.in-Some.mark, c.in-Some.depth)) c.args.item (Then c.in-Then.frame) c.args.below c.in_ok-rest-in-Some.rest c.in-Some.is c.in-Then.is c.in_ok-rest-in-Some.ensures.adds

pub returns-in_ok-each-in-Part-clause-adds : goal.returns-in_ok-each-in-Part-clause-adds
returns-in_ok-each-in-Part-clause-adds c =
    let old = c.args.stacks.now in
    let before = c.args.tops.now in
    let k = stack_at old c.args.below in
    item_is c.args.token.now old before c.each-in-Part.new.stacks c.each-in-Part.new.tops c.args.read c.args.read c.args.item (Part c.in-Part.piece) c.args.below None refl c.in-Part.is
    (each_same old before c.each-in-Part.new.stacks c.each-in-Part.new.tops c.in_ok-next-in-Part.next (parts c.args.token.now c.in-Part.piece) k c.in_ok-next-in-Part.ensures c.in_ok-each-in-Part.ensures)

pub returns-in_ok-each-in-May-clause-adds : goal.returns-in_ok-each-in-May-clause-adds
returns-in_ok-each-in-May-clause-adds c =
    let token = c.args.token.now in
    let old = c.args.stacks.now in
    let before = c.args.tops.now in
    let k = stack_at old c.args.below in
    let next = options token c.in-May.optional in
    item_is token old before c.each-in-May.new.stacks c.each-in-May.new.tops c.args.read c.args.read c.args.item (May c.in-May.optional) c.args.below (Some (record { read = None; at = c.args.below })) refl c.in-May.is
    (rest_added token old before c.each-in-May.new.stacks c.each-in-May.new.tops (each next k) None c.args.below c.requires
    (each_same old before c.each-in-May.new.stacks c.each-in-May.new.tops c.in_ok-next-in-May.next next k c.in_ok-next-in-May.ensures c.in_ok-each-in-May.ensures))
